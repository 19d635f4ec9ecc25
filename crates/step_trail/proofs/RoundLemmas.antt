-- One more step of a round, and one more round.
use Rattle.std.proofs.Common.{◌≡◌, ℕ, true, false, List, [], ◌∷◌, ◌++◌, map, refl, ap, sym, subst, ◌∙◌, append_assoc}
use Rattle.std.proofs.lemmas.List.{append-nil, map-append}
use Rattle.step_trail.specs.Entries.{Did, Entry, Step, staying}
use Rattle.step_trail.specs.Finished.{AreTried, IsRound, AreRounds, entries_in, Finished}
use Rattle.step_trail.proofs.ScheduleLemmas.{all_more}

pub round_begins : (whos : List ℕ) → AreTried whos [] whos
round_begins whos = record { tried = refl; waited = tt }

pub round_goes_on : (whos : List ℕ) (busy : List Did) (d : Did) (rest : List ℕ) → AreTried whos busy (d.who ∷ rest) → d.went ≡ false → AreTried whos (busy ++ d ∷ []) rest
round_goes_on whos busy d rest are went = record {
  tried = are.tried ∙ sym (append_assoc (map (λ (x : Did). x.who) busy) (d.who ∷ []) rest) ∙ sym (ap (λ (ks : List ℕ). ks ++ rest) (map-append (λ (x : Did). x.who) busy (d ∷ [])));
  waited = all_more (λ (x : Did). x.went ≡ false) busy d are.waited went;
}

pub round_ends : (whos : List ℕ) (busy : List Did) (d : Did) (rest : List ℕ) → AreTried whos busy (d.who ∷ rest) → d.went ≡ true → IsRound whos (busy ++ d ∷ [])
round_ends whos busy d rest are went = record { busy = busy; last = d; rest = rest; tried = are; went = went; are = refl }

pub entries_more : (rs : List (List Did)) (r : List Did) → entries_in (rs ++ r ∷ []) ≡ entries_in rs ++ map Step r
entries_more [] r = append-nil (map Step r)
entries_more (x ∷ xs) r = ap (λ (es : List Entry). map Step x ++ es) (entries_more xs r) ∙ sym (append_assoc (map Step x) (entries_in xs) (map Step r))

pub rounds_more : (n : ℕ) (before : List Entry) (rs : List (List Did)) (r : List Did) → AreRounds n before rs → IsRound (staying n (before ++ entries_in rs)) r → AreRounds n before (rs ++ r ∷ [])
rounds_more n before [] r are is = (subst (λ (es : List Entry). IsRound (staying n es) r) (append-nil before) is, tt)
rounds_more n before (x ∷ xs) r are is = (are.0, rounds_more n (before ++ map Step x) xs r are.1 (subst (λ (es : List Entry). IsRound (staying n es) r) (sym (append_assoc before (map Step x) (entries_in xs))) is))

pub rounds_end : (n : ℕ) (before : List Entry) (rs : List (List Did)) → AreRounds n before rs → staying n (before ++ entries_in rs) ≡ [] → Finished n before (entries_in rs)
rounds_end n before rs are left = record { rounds = rs; are = refl; tried = are; left = left }
