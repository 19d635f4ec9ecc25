-- Picks as they are written, and as they are read.
use Rattle.std.proofs.Common.{◌≡◌, ℕ, Bool, true, false, cond, List, [], ◌∷◌, take, drop, arith, ap, sym, ◌∙◌, refl, subst, Option}
use Rattle.std.specs.Prelude.{Some, None, ◌&&◌, ◌==◌, nat_le, find}
use Rattle.std.specs.Option.{option_map}
use Rattle.std.specs.List.{list_all}
use Rattle.std.specs.Str.{bytes_eq}
use Rattle.std.proofs.lemmas.Bool.{leb-true, eqb-true}
use Rattle.std.proofs.lemmas.List.{take-append-drop}
use Rattle.std.proofs.lemmas.Slice.Eq.{bytes_eq-Decides}
use Rattle.plain_model.specs.declared.kind.Kind.{Kind}
use Rattle.plain_model.specs.declared.kind.Kind.TheVariants.{Start, Lock, Latch, Look, Fetch, Seek, Read, Plan, Pass, Copy, Mark, Claim, Change, Back, Heal, Cut, Gather, Swap, Commit, Say, Leave, Flush}
use Rattle.plain_model.specs.declared.pick.Until.{Until}
use Rattle.plain_model.specs.declared.pick.Until.TheVariants.{One, Reply, At}
use Rattle.plain_model.specs.declared.pick.Pick.{Pick}
use Rattle.script_read.specs.Decimal.{is_decimal, number_of}
use Rattle.script_read.specs.Classes.{is_blank}
use Rattle.script_read.specs.Picks.{word_of, kinds, IsUntil, IsPick, words, ArePicks, HasPicks, kind_of, until_of, digits_len, picked, of_flusher, pick_by, pick_of, with_pick, picks_of, picks_on}
use Rattle.script_read.proofs.BoolLemmas.{both_hold, clash}

-- what is found passes the test, and what all pass
found_by : {X : Type 0} (v : Bool) (test also : X → Bool) (x y : X) (xs : List X) → test x ≡ v → cond v (Some x) (find test xs) ≡ Some y → (also x && list_all also xs) ≡ true
    → (find test xs ≡ Some y → list_all also xs ≡ true → (test y ≡ true) × (also y ≡ true)) → (test y ≡ true) × (also y ≡ true)
found_by {X} true test also x y xs e h all next = let same : x ≡ y = cc in (ap test (sym same) ∙ e, ap also (sym same) ∙ (both_hold (also x) (list_all also xs) all).0)
found_by {X} false test also x y xs e h all next = next h (both_hold (also x) (list_all also xs) all).1

found : {X : Type 0} (test also : X → Bool) (y : X) (xs : List X) → find test xs ≡ Some y → list_all also xs ≡ true → (test y ≡ true) × (also y ≡ true)
found {X} test also y [] h all = cc
found {X} test also y (x ∷ xs) h all = found_by (test x) test also x y xs refl h all (found test also y xs)

-- a kind that a pick may name
abbrev is_named : Kind → Bool
is_named Flush = false
is_named _ = true

kind_is : (word : List ℕ) (kind : Kind) → kind_of word ≡ Some kind → (word ≡ word_of kind) × (is_named kind ≡ true)
kind_is word kind h =
    let parts = found (λ k. bytes_eq word (word_of k)) is_named kind kinds h refl in
    ((bytes_eq-Decides word (word_of kind)).0 parts.0, parts.1)

named_until : (kind : Kind) (word : List ℕ) → is_named kind ≡ true → word ≡ word_of kind → IsUntil (At kind) (64 ∷ word)
named_until Start word h e = rw e refl
named_until Lock word h e = rw e refl
named_until Latch word h e = rw e refl
named_until Look word h e = rw e refl
named_until Fetch word h e = rw e refl
named_until Seek word h e = rw e refl
named_until Read word h e = rw e refl
named_until Plan word h e = rw e refl
named_until Pass word h e = rw e refl
named_until Copy word h e = rw e refl
named_until Mark word h e = rw e refl
named_until Claim word h e = rw e refl
named_until Change word h e = rw e refl
named_until Back word h e = rw e refl
named_until Heal word h e = rw e refl
named_until Cut word h e = rw e refl
named_until Gather word h e = rw e refl
named_until Swap word h e = rw e refl
named_until Commit word h e = rw e refl
named_until Say word h e = rw e refl
named_until Leave word h e = rw e refl
named_until Flush word h e = absurd (clash false h refl)

at_is : (o : Option Kind) (word : List ℕ) (until : Until) → kind_of word ≡ o → option_map At o ≡ Some until → IsUntil until (64 ∷ word)
at_is None word until e h = cc
at_is (Some kind) word until e h =
    let same : At kind ≡ until = cc in
    let parts = kind_is word kind e in
    subst (λ (u : Until). IsUntil u (64 ∷ word)) same (named_until kind word parts.1 parts.0)

reply_by : (v : Bool) (rest : List ℕ) (until : Until) → bytes_eq rest (33 ∷ []) ≡ v → cond v (Some Reply) None ≡ Some until → IsUntil until rest
reply_by true rest until e h = let same : Reply ≡ until = cc in subst (λ (u : Until). IsUntil u rest) same ((bytes_eq-Decides rest (33 ∷ [])).0 e)
reply_by false rest until e h = cc

until_by : (v : Bool) (b : ℕ) (bs : List ℕ) (until : Until) → (b == 64) ≡ v → cond v (option_map At (kind_of bs)) (cond (bytes_eq (b ∷ bs) (33 ∷ [])) (Some Reply) None) ≡ Some until → IsUntil until (b ∷ bs)
until_by true b bs until e h = let same : 64 ≡ b = sym (eqb-true b 64 e) in subst (λ c. IsUntil until (c ∷ bs)) same (at_is (kind_of bs) bs until refl h)
until_by false b bs until e h = reply_by (bytes_eq (b ∷ bs) (33 ∷ [])) (b ∷ bs) until refl h

-- what is read behind a number is written so
until_is : (rest : List ℕ) (until : Until) → until_of rest ≡ Some until → IsUntil until rest
until_is [] until h = let same : One ≡ until = cc in subst (λ (u : Until). IsUntil u []) same refl
until_is (b ∷ bs) until h = until_by (b == 64) b bs until refl h

flusher_is : (until : Until) (pick : Pick) → of_flusher until ≡ Some pick → (pick.who ≡ 0) × (pick.until ≡ until) × (until ≡ One)
flusher_is One pick h = let same : picked 0 One ≡ pick = cc in (ap (λ (p : Pick). p.who) (sym same), ap (λ (p : Pick). p.until) (sym same), refl)
flusher_is Reply pick h = cc
flusher_is (At kind) pick h = cc

-- a pick's session, how far it goes, and that the flusher takes single steps
pub record ByNumber (who : ℕ) (until : Until) (pick : Pick) : Type 0 where
  pub who_is : pick.who ≡ who
  pub until_is : pick.until ≡ until
  pub flusher : pick.who ≡ 0 → pick.until ≡ One

by_number : (v : Bool) (who : ℕ) (until : Until) (pick : Pick) → (who == 0) ≡ v → cond v (of_flusher until) (Some (picked who until)) ≡ Some pick → ByNumber who until pick
by_number true who until pick e h =
    let parts = flusher_is until pick h in
    let zero : who ≡ 0 = eqb-true who 0 e in
    record { who_is = parts.0 ∙ sym zero; until_is = parts.1; flusher = λ _. parts.1 ∙ parts.2 }
by_number false who until pick e h =
    let same : picked who until ≡ pick = cc in
    let here : pick.who ≡ who = ap (λ (p : Pick). p.who) (sym same) in
    record { who_is = here; until_is = ap (λ (p : Pick). p.until) (sym same); flusher = λ z. absurd (clash (who == 0) (ap (λ k. k == 0) (sym here ∙ z)) e) }

pick_found : (sessions : ℕ) (word : List ℕ) (pick : Pick) (o : Option Until) → until_of (drop (digits_len word) word) ≡ o → is_decimal (take (digits_len word) word) ≡ true
    → nat_le (number_of (take (digits_len word) word)) sessions ≡ true → pick_by (number_of (take (digits_len word) word)) o ≡ Some pick → IsPick sessions word pick
pick_found sessions word pick None e form there h = cc
pick_found sessions word pick (Some until) e form there h =
    let digits : List ℕ = take (digits_len word) word in
    let by : ByNumber (number_of digits) until pick = by_number (number_of digits == 0) (number_of digits) until pick refl h in
    record {
      digits = digits;
      rest = drop (digits_len word) word;
      word_is = sym (take-append-drop (digits_len word) word);
      number = record { form = form; value = sym by.who_is };
      there = omega (arith, by.who_is, leb-true _ _ there);
      far = subst (λ (u : Until). IsUntil u (drop (digits_len word) word)) (sym by.until_is) (until_is (drop (digits_len word) word) until e);
      flusher = by.flusher;
    }

pick_tested : (v w : Bool) (sessions : ℕ) (word : List ℕ) (pick : Pick) → is_decimal (take (digits_len word) word) ≡ v → nat_le (number_of (take (digits_len word) word)) sessions ≡ w
    → cond (v && w) (pick_by (number_of (take (digits_len word) word)) (until_of (drop (digits_len word) word))) None ≡ Some pick → IsPick sessions word pick
pick_tested true true sessions word pick e f h = pick_found sessions word pick (until_of (drop (digits_len word) word)) refl e f h
pick_tested true false sessions word pick e f h = cc
pick_tested false w sessions word pick e f h = cc

-- a pick that is read is written so
pub pick_is : (sessions : ℕ) (word : List ℕ) (pick : Pick) → pick_of sessions word ≡ Some pick → IsPick sessions word pick
pick_is sessions word pick h = pick_tested (is_decimal (take (digits_len word) word)) (nat_le (number_of (take (digits_len word) word)) sessions) sessions word pick refl refl h

picks_are_by : (o : Option Pick) (p : Option (List Pick)) (sessions : ℕ) (word : List ℕ) (rest : List (List ℕ)) (picks : List Pick) → pick_of sessions word ≡ o → with_pick o p ≡ Some picks
    → ((ps : List Pick) → p ≡ Some ps → ArePicks sessions rest ps) → ArePicks sessions (word ∷ rest) picks
picks_are_by None p sessions word rest picks e h next = cc
picks_are_by (Some pick) None sessions word rest picks e h next = cc
picks_are_by (Some pick) (Some ps) sessions word rest picks e h next =
    let same : pick ∷ ps ≡ picks = cc in subst (λ (qs : List Pick). ArePicks sessions (word ∷ rest) qs) same (pick_is sessions word pick e, next ps refl)

picks_are : (sessions : ℕ) (line : List (List ℕ)) (picks : List Pick) → picks_of sessions line ≡ Some picks → ArePicks sessions line picks
picks_are sessions [] picks h = let same : [] ≡ picks = cc in subst (λ (qs : List Pick). ArePicks sessions [] qs) same tt
picks_are sessions (word ∷ rest) picks h = picks_are_by (pick_of sessions word) (picks_of sessions rest) sessions word rest picks refl h (λ ps e. picks_are sessions rest ps e)

has_by : (v : Bool) (sessions : ℕ) (line : List ℕ) (picks : List Pick) → is_blank line ≡ v → cond v (Some []) (picks_of sessions (words line)) ≡ Some picks → HasPicks sessions line picks
has_by true sessions line picks e h = let same : [] ≡ picks = cc in ((λ _. sym same), (λ f. absurd (clash (is_blank line) e f)))
has_by false sessions line picks e h = ((λ f. absurd (clash (is_blank line) f e)), (λ _. picks_are sessions (words line) picks h))

-- a line's picks that are read are written so
pub has_picks : (sessions : ℕ) (line : List ℕ) (picks : List Pick) → picks_on sessions line ≡ Some picks → HasPicks sessions line picks
has_picks sessions line picks h = has_by (is_blank line) sessions line picks refl h
