-- Where a text ends, and what it says.
use Rattle.std.proofs.Common.{◌≡◌, ℕ, ◌+◌, ◌-◌, ◌≤◌, Bool, true, false, cond, List, [], ◌∷◌, ◌++◌, length, take, drop, arith, ap, sym, ◌∙◌, refl, inl, inr, ◌⊎◌, Option, append_assoc, length-append}
use Rattle.std.specs.Prelude.{Some, None}
use Rattle.std.specs.List.{list_all}
use Rattle.std.proofs.lemmas.Bool.{eqb-true}
use Rattle.std.proofs.Math.Seq.{take-append_seam, drop-append_seam}
use Rattle.sql_lex.proofs.BoolLemmas.{both_hold}
use Rattle.sql_lex.specs.Texts.{is_quote, is_printable, doubled, undoubled, text_end}
use Rattle.sql_lex.specs.Tokens.{starts, IsUnclosed}

undouble_one : (b : ℕ) (bs : List ℕ) (v : Bool) → is_quote b ≡ v → undoubled (doubled bs) ≡ bs → undoubled (cond v (b ∷ b ∷ doubled bs) (b ∷ doubled bs)) ≡ b ∷ bs
undouble_one b bs true e h = rw (e, h) refl
undouble_one b bs false e h = rw (e, h) refl

-- what is doubled and undoubled is as before
pub undoubled-doubled : (bs : List ℕ) → undoubled (doubled bs) ≡ bs
undoubled-doubled [] = refl
undoubled-doubled (b ∷ bs) = undouble_one b bs (is_quote b) refl (undoubled-doubled bs)

-- a text and its closing quote stand in front, and so many bytes are passed over
pub record TextEnds (n m : ℕ) (bs : List ℕ) : Type 0 where
  pub text : List ℕ
  pub rest : List ℕ
  pub split : bs ≡ doubled text ++ 39 ∷ rest
  pub printable : list_all is_printable text ≡ true
  pub stops : starts is_quote rest ≡ false
  pub long : m ≡ n + length (doubled text) + 1

pick : {X : Type 0} (v : Bool) (x y : Option X) (m : X) → cond v x y ≡ Some m → ((v ≡ true) × (x ≡ Some m)) ⊎ ((v ≡ false) × (y ≡ Some m))
pick true x y m e = inl (refl, e)
pick false x y m e = inr (refl, e)

ends_in_front : (n m b : ℕ) (rest : List ℕ) → is_quote b ≡ true → starts is_quote rest ≡ false → Some (n + 1) ≡ Some m → TextEnds n m (b ∷ rest)
ends_in_front n m b rest quote stops e = let same : n + 1 ≡ m = cc in
    record { text = []; rest = rest; split = rw (eqb-true b 39 quote) refl; printable = refl; stops = stops; long = omega (arith, same) }

ends_past_quote : (n m b c : ℕ) (bs : List ℕ) → is_quote b ≡ true → is_quote c ≡ true → TextEnds (n + 1 + 1) m bs → TextEnds n m (b ∷ c ∷ bs)
ends_past_quote n m b c bs quote again h = record {
  text = 39 ∷ h.text;
  rest = h.rest;
  split = rw (eqb-true b 39 quote, eqb-true c 39 again) (ap (λ (cs : List ℕ). 39 ∷ 39 ∷ cs) h.split);
  printable = h.printable;
  stops = h.stops;
  long = omega (arith, h.long);
}

ends_past_byte : (n m b : ℕ) (bs : List ℕ) → is_quote b ≡ false → is_printable b ≡ true → TextEnds (n + 1) m bs → TextEnds n m (b ∷ bs)
ends_past_byte n m b bs other printable h = record {
  text = b ∷ h.text;
  rest = h.rest;
  split = rw other (ap (λ (cs : List ℕ). b ∷ cs) h.split);
  printable = rw printable h.printable;
  stops = h.stops;
  long = rw other (omega (arith, h.long));
}

-- where a text ends, a text stands in front
pub text_ends : (bs : List ℕ) (n m : ℕ) → text_end false n bs ≡ Some m → TextEnds n m bs
text_ends [] n m e = cc
text_ends (b ∷ []) n m e = elim (pick (is_quote b) _ _ m e) [
  | inl p ↦ ends_in_front n m b [] p.0 refl p.1
  | inr p ↦ elim (pick (is_printable b) _ _ m p.1) [ inl r ↦ (let none : None ≡ Some m = r.1 in cc) | inr r ↦ (let none : None ≡ Some m = r.1 in cc) ]
]
text_ends (b ∷ c ∷ cs) n m e = elim (pick (is_quote b) _ _ m e) [
  | inl p ↦ elim (pick (is_quote c) _ _ m p.1) [
    | inl r ↦ ends_past_quote n m b c cs p.0 r.0 (text_ends cs (n + 1 + 1) m r.1)
    | inr r ↦ ends_in_front n m b (c ∷ cs) p.0 r.0 r.1
  ]
  | inr p ↦ elim (pick (is_printable b) _ _ m p.1) [
    | inl r ↦ ends_past_byte n m b (c ∷ cs) p.0 r.0 (text_ends (c ∷ cs) (n + 1) m r.1)
    | inr r ↦ (let none : None ≡ Some m = r.1 in cc)
  ]
]

ends_here : (n : ℕ) (rest : List ℕ) → starts is_quote rest ≡ false → text_end true n rest ≡ Some n
ends_here n [] stops = refl
ends_here n (b ∷ bs) stops = rw stops refl

ends_one : (n b : ℕ) (bs rest : List ℕ) (v : Bool) → is_quote b ≡ v → is_printable b ≡ true → ((k : ℕ) → text_end false k (doubled bs ++ 39 ∷ rest) ≡ Some (k + length (doubled bs) + 1))
    → text_end false n (cond v (b ∷ b ∷ doubled bs) (b ∷ doubled bs) ++ 39 ∷ rest) ≡ Some (n + length (cond v (b ∷ b ∷ doubled bs) (b ∷ doubled bs)) + 1)
ends_one n b bs rest true quote printable h = let e : n + 1 + 1 + length (doubled bs) + 1 ≡ n + length (b ∷ b ∷ doubled bs) + 1 = omega arith in rw quote (h (n + 1 + 1) ∙ ap Some e)
ends_one n b bs rest false other printable h = let e : n + 1 + length (doubled bs) + 1 ≡ n + length (b ∷ doubled bs) + 1 = omega arith in rw (other, printable) (h (n + 1) ∙ ap Some e)

-- a text ends behind its closing quote
pub ends : (text rest : List ℕ) (n : ℕ) → list_all is_printable text ≡ true → starts is_quote rest ≡ false → text_end false n (doubled text ++ 39 ∷ rest) ≡ Some (n + length (doubled text) + 1)
ends [] rest n all stops = let e : n + 1 ≡ n + 0 + 1 = omega arith in ends_here (n + 1) rest stops ∙ ap Some e
ends (b ∷ bs) rest n all stops = let both = both_hold (is_printable b) (list_all is_printable bs) all in ends_one n b bs rest (is_quote b) refl both.0 (λ k. ends bs rest k both.1 stops)

pub closed_within : (n m : ℕ) (bs : List ℕ) → TextEnds n m bs → m ≤ n + length bs
closed_within n m bs h = let e : length bs ≡ length (doubled h.text) + length (39 ∷ h.rest) = ap length h.split ∙ length-append (doubled h.text) (39 ∷ h.rest) in omega (arith, e, h.long)

-- where no text ends, none begins
pub none_closed : (bs : List ℕ) → text_end false 0 bs ≡ None → IsUnclosed (39 ∷ bs)
none_closed bs none = λ text rest all stops split.
    let inside : bs ≡ (doubled text ++ 39 ∷ []) ++ rest = cc in
    let found : text_end false 0 bs ≡ Some (0 + length (doubled text) + 1) = ap (text_end false 0) (inside ∙ append_assoc (doubled text) (39 ∷ []) rest) ∙ ends text rest 0 all stops in
    cc

-- and the other way round
unclosed_one : (bs : List ℕ) (o : Option ℕ) → IsUnclosed (39 ∷ bs) → text_end false 0 bs ≡ o → o ≡ None
unclosed_one bs None unended e = refl
unclosed_one bs (Some m) unended e = let h = text_ends bs 0 m e in absurd (unended h.text h.rest h.printable h.stops (ap (λ (cs : List ℕ). 39 ∷ cs) (h.split ∙ sym (append_assoc (doubled h.text) (39 ∷ []) h.rest))))

pub unclosed_none : (bs : List ℕ) → IsUnclosed (39 ∷ bs) → text_end false 0 bs ≡ None
unclosed_none bs unended = unclosed_one bs (text_end false 0 bs) unended refl

-- a text and its closing quote, without what follows
pub take_text : (text rest : List ℕ) → take (length (doubled text) + 1) (doubled text ++ 39 ∷ rest) ≡ doubled text ++ 39 ∷ []
take_text text rest =
    let long : length (doubled text ++ 39 ∷ []) ≡ length (doubled text) + 1 = length-append (doubled text) (39 ∷ []) in
    rw (← long, ← append_assoc (doubled text) (39 ∷ []) rest) (take-append_seam (doubled text ++ 39 ∷ []) rest)

pub drop_text : (text rest : List ℕ) → drop (length (doubled text) + 1) (doubled text ++ 39 ∷ rest) ≡ rest
drop_text text rest =
    let long : length (doubled text ++ 39 ∷ []) ≡ length (doubled text) + 1 = length-append (doubled text) (39 ∷ []) in
    rw (← long, ← append_assoc (doubled text) (39 ∷ []) rest) (drop-append_seam (doubled text ++ 39 ∷ []) rest)

-- a text that ends so many bytes on, without its closing quote
pub record HasText (bs : List ℕ) (n : ℕ) : Type 0 where
  pub some : 1 ≤ n
  pub within : n ≤ length bs
  pub whole : doubled (undoubled (take (n - 1) bs)) ≡ take (n - 1) bs

pub text_in_front : (bs : List ℕ) (n : ℕ) → text_end false 0 bs ≡ Some n → HasText bs n
text_in_front bs n e =
    let h = text_ends bs 0 n e in
    let before : n - 1 ≡ length (doubled h.text) = omega (arith, h.long) in
    let same : take (n - 1) bs ≡ doubled h.text = ap (take (n - 1)) h.split ∙ rw before (take-append_seam (doubled h.text) (39 ∷ h.rest)) in
    record { some = omega (arith, h.long); within = omega (arith, closed_within 0 n bs h); whole = rw (same, undoubled-doubled h.text) refl }
