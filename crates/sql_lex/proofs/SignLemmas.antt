-- Which signs are marks, and which open comments.
use Rattle.std.proofs.Common.{◌≡◌, ℕ, Bool, true, false, cond, List, [], ◌∷◌, ap, ◌∙◌, refl, inl, inr, ◌⊎◌, subst}
use Rattle.std.specs.Prelude.{Some, None, ◌==◌, ◌&&◌, ◌||◌}
use Rattle.std.proofs.lemmas.Bool.{eqb-true}
use Rattle.page_base.specs.Name.{is_name_byte}
use Rattle.sql_lex.proofs.BoolLemmas.{none_holds, and_false}
use Rattle.sql_lex.proofs.CommentLemmas.{pick}
use Rattle.sql_lex.specs.declared.token.Mark.{Mark}
use Rattle.sql_lex.specs.declared.token.Mark.TheVariants.{Open, Close, Comma, Semicolon, Dot, Star, Plus, Minus, Equal, NotEqual, Less, AtMost, Greater, AtLeast}
use Rattle.sql_lex.specs.Texts.{is_quote}
use Rattle.sql_lex.specs.Tokens.{is_white, is_pair, IsMark}
use Rattle.sql_lex.specs.Cut.{mark_of_one, mark_of_two}

-- no white space, letter, digit, quote or bracket
pub record IsSign (b : ℕ) : Type 0 where
  pub dark : is_white b ≡ false
  pub other : is_name_byte b ≡ false
  pub plain : is_quote b ≡ false
  pub free : (b == 91) ≡ false

-- a mark of one byte, and one of two
pub record OneSign (mark : Mark) (bytes : List ℕ) : Type 0 where
  pub byte : ℕ
  pub is : bytes ≡ byte ∷ []
  pub found : mark_of_one byte ≡ Some mark
  pub sign : IsSign byte

pub record TwoSigns (mark : Mark) (bytes : List ℕ) : Type 0 where
  pub first : ℕ
  pub second : ℕ
  pub is : bytes ≡ first ∷ second ∷ []
  pub found : mark_of_two first second ≡ Some mark
  pub line : (first == 45 && second == 45) ≡ false
  pub block : (first == 47 && second == 42) ≡ false
  pub sign : IsSign first

-- a mark has one byte or two
pub mark_signs : (mark : Mark) (bytes : List ℕ) → IsMark mark bytes → OneSign mark bytes ⊎ TwoSigns mark bytes
mark_signs Open bytes h = inl (record { byte = 40; is = h; found = refl; sign = record { dark = refl; other = refl; plain = refl; free = refl } })
mark_signs Close bytes h = inl (record { byte = 41; is = h; found = refl; sign = record { dark = refl; other = refl; plain = refl; free = refl } })
mark_signs Comma bytes h = inl (record { byte = 44; is = h; found = refl; sign = record { dark = refl; other = refl; plain = refl; free = refl } })
mark_signs Semicolon bytes h = inl (record { byte = 59; is = h; found = refl; sign = record { dark = refl; other = refl; plain = refl; free = refl } })
mark_signs Dot bytes h = inl (record { byte = 46; is = h; found = refl; sign = record { dark = refl; other = refl; plain = refl; free = refl } })
mark_signs Star bytes h = inl (record { byte = 42; is = h; found = refl; sign = record { dark = refl; other = refl; plain = refl; free = refl } })
mark_signs Plus bytes h = inl (record { byte = 43; is = h; found = refl; sign = record { dark = refl; other = refl; plain = refl; free = refl } })
mark_signs Minus bytes h = inl (record { byte = 45; is = h; found = refl; sign = record { dark = refl; other = refl; plain = refl; free = refl } })
mark_signs Equal bytes h = inl (record { byte = 61; is = h; found = refl; sign = record { dark = refl; other = refl; plain = refl; free = refl } })
mark_signs NotEqual bytes (inl h) = inr (record { first = 60; second = 62; is = h; found = refl; line = refl; block = refl; sign = record { dark = refl; other = refl; plain = refl; free = refl } })
mark_signs NotEqual bytes (inr h) = inr (record { first = 33; second = 61; is = h; found = refl; line = refl; block = refl; sign = record { dark = refl; other = refl; plain = refl; free = refl } })
mark_signs Less bytes h = inl (record { byte = 60; is = h; found = refl; sign = record { dark = refl; other = refl; plain = refl; free = refl } })
mark_signs AtMost bytes h = inr (record { first = 60; second = 61; is = h; found = refl; line = refl; block = refl; sign = record { dark = refl; other = refl; plain = refl; free = refl } })
mark_signs Greater bytes h = inl (record { byte = 62; is = h; found = refl; sign = record { dark = refl; other = refl; plain = refl; free = refl } })
mark_signs AtLeast bytes h = inr (record { first = 62; second = 61; is = h; found = refl; line = refl; block = refl; sign = record { dark = refl; other = refl; plain = refl; free = refl } })

same_byte : (b c : ℕ) (found mark : Mark) → ((bytes : List ℕ) → bytes ≡ c ∷ [] → IsMark found bytes) → (b == c) ≡ true → Some found ≡ Some mark → IsMark mark (b ∷ [])
same_byte b c found mark is e f = let same : found ≡ mark = cc in subst (λ (m : Mark). IsMark m (b ∷ [])) same (is (b ∷ []) (ap (λ (x : ℕ). x ∷ []) (eqb-true b c e)))

same_pair : (a b c d : ℕ) (found mark : Mark) → ((bytes : List ℕ) → bytes ≡ c ∷ d ∷ [] → IsMark found bytes) → (a == c) ≡ true → (b == d) ≡ true → Some found ≡ Some mark → IsMark mark (a ∷ b ∷ [])
same_pair a b c d found mark is e f g =
    let same : found ≡ mark = cc in
    subst (λ (m : Mark). IsMark m (a ∷ b ∷ [])) same (is (a ∷ b ∷ []) (ap (λ (x : ℕ). x ∷ b ∷ []) (eqb-true a c e) ∙ ap (λ (x : ℕ). c ∷ x ∷ []) (eqb-true b d f)))

-- a byte that is found to be a mark is one
pub one_mark : (b : ℕ) (mark : Mark) → mark_of_one b ≡ Some mark → IsMark mark (b ∷ [])
one_mark b mark e =
    elim (pick (b == 40) _ _ mark e) [
      | inl p0 ↦ same_byte b 40 Open mark (λ bytes h. h) p0.0 p0.1
      | inr p0 ↦ (
          elim (pick (b == 41) _ _ mark p0.1) [
            | inl p1 ↦ same_byte b 41 Close mark (λ bytes h. h) p1.0 p1.1
            | inr p1 ↦ (
                elim (pick (b == 44) _ _ mark p1.1) [
                  | inl p2 ↦ same_byte b 44 Comma mark (λ bytes h. h) p2.0 p2.1
                  | inr p2 ↦ (
                      elim (pick (b == 59) _ _ mark p2.1) [
                        | inl p3 ↦ same_byte b 59 Semicolon mark (λ bytes h. h) p3.0 p3.1
                        | inr p3 ↦ (
                            elim (pick (b == 46) _ _ mark p3.1) [
                              | inl p4 ↦ same_byte b 46 Dot mark (λ bytes h. h) p4.0 p4.1
                              | inr p4 ↦ (
                                  elim (pick (b == 42) _ _ mark p4.1) [
                                    | inl p5 ↦ same_byte b 42 Star mark (λ bytes h. h) p5.0 p5.1
                                    | inr p5 ↦ (
                                        elim (pick (b == 43) _ _ mark p5.1) [
                                          | inl p6 ↦ same_byte b 43 Plus mark (λ bytes h. h) p6.0 p6.1
                                          | inr p6 ↦ (
                                              elim (pick (b == 45) _ _ mark p6.1) [
                                                | inl p7 ↦ same_byte b 45 Minus mark (λ bytes h. h) p7.0 p7.1
                                                | inr p7 ↦ (
                                                    elim (pick (b == 61) _ _ mark p7.1) [
                                                      | inl p8 ↦ same_byte b 61 Equal mark (λ bytes h. h) p8.0 p8.1
                                                      | inr p8 ↦ (
                                                          elim (pick (b == 60) _ _ mark p8.1) [
                                                            | inl p9 ↦ same_byte b 60 Less mark (λ bytes h. h) p9.0 p9.1
                                                            | inr p9 ↦ (
                                                                elim (pick (b == 62) _ _ mark p9.1) [
                                                                  | inl p10 ↦ same_byte b 62 Greater mark (λ bytes h. h) p10.0 p10.1
                                                                  | inr p10 ↦ (
                                                                      let none : None ≡ Some mark = p10.1 in cc)
                                                                ])
                                                          ])
                                                    ])
                                              ])
                                        ])
                                  ])
                            ])
                      ])
                ])
          ])
    ]

-- two bytes that are found to be one are one
pub two_mark : (b c : ℕ) (mark : Mark) → mark_of_two b c ≡ Some mark → IsMark mark (b ∷ c ∷ [])
two_mark b c mark e = elim (pick (b == 60) _ _ mark e) [
  | inl p ↦ elim (pick (c == 61) _ _ mark p.1) [
    | inl q ↦ same_pair b c 60 61 AtMost mark (λ bytes h. h) p.0 q.0 q.1
    | inr q ↦ elim (pick (c == 62) _ _ mark q.1) [ inl r ↦ same_pair b c 60 62 NotEqual mark (λ bytes h. inl h) p.0 r.0 r.1 | inr r ↦ (let none : None ≡ Some mark = r.1 in cc) ]
  ]
  | inr p ↦ elim (pick (b == 62) _ _ mark p.1) [
    | inl q ↦ elim (pick (c == 61) _ _ mark q.1) [ inl r ↦ same_pair b c 62 61 AtLeast mark (λ bytes h. h) q.0 r.0 r.1 | inr r ↦ (let none : None ≡ Some mark = r.1 in cc) ]
    | inr q ↦ elim (pick (b == 33) _ _ mark q.1) [
      | inl r ↦ elim (pick (c == 61) _ _ mark r.1) [ inl t ↦ same_pair b c 33 61 NotEqual mark (λ bytes h. inr h) r.0 t.0 t.1 | inr t ↦ (let none : None ≡ Some mark = t.1 in cc) ]
      | inr r ↦ (let none : None ≡ Some mark = r.1 in cc)
    ]
  ]
]

-- two signs that are no pair: no comment begins, and they are no mark
pub record IsNoPair (b c : ℕ) : Type 0 where
  pub line : (b == 45 && c == 45) ≡ false
  pub block : (b == 47 && c == 42) ≡ false
  pub none : mark_of_two b c ≡ None

less_alone : (c : ℕ) → (c == 61 || c == 62) ≡ false → mark_of_two 60 c ≡ None
less_alone c h = let both = none_holds (c == 61) (c == 62) h in rw (both.0, both.1) refl

no_less : (b c : ℕ) → (b == 60) ≡ true → is_pair b c ≡ false → IsNoPair b c
no_less b c e h =
    let same : b ≡ 60 = eqb-true b 60 e in
    let alone : (c == 61 || c == 62) ≡ false = rw same at h in
    record { line = rw same refl; block = rw same refl; none = rw same (less_alone c alone) }

no_greater : (b c : ℕ) → (b == 62) ≡ true → is_pair b c ≡ false → IsNoPair b c
no_greater b c e h =
    let same : b ≡ 62 = eqb-true b 62 e in
    let alone : (c == 61) ≡ false = rw same at h in
    record { line = rw same refl; block = rw same refl; none = rw (same, alone) refl }

no_bang : (b c : ℕ) → (b == 33) ≡ true → is_pair b c ≡ false → IsNoPair b c
no_bang b c e h =
    let same : b ≡ 33 = eqb-true b 33 e in
    let alone : (c == 61) ≡ false = rw same at h in
    record { line = rw same refl; block = rw same refl; none = rw (same, alone) refl }

no_minus : (b c : ℕ) → (b == 45) ≡ true → is_pair b c ≡ false → IsNoPair b c
no_minus b c e h =
    let same : b ≡ 45 = eqb-true b 45 e in
    let alone : (c == 45) ≡ false = rw same at h in
    record { line = rw (same, alone) refl; block = rw same refl; none = rw same refl }

no_other : (b c : ℕ) → (b == 60) ≡ false → (b == 62) ≡ false → (b == 33) ≡ false → (b == 45) ≡ false → is_pair b c ≡ false → IsNoPair b c
no_other b c less greater bang minus h =
    let alone : (b == 47 && c == 42) ≡ false = rw (less, greater, bang, minus) at h in
    record { line = rw minus refl; block = alone; none = rw (less, greater, bang) refl }

by_minus : (v : Bool) (b c : ℕ) → (b == 45) ≡ v → (b == 60) ≡ false → (b == 62) ≡ false → (b == 33) ≡ false → is_pair b c ≡ false → IsNoPair b c
by_minus true b c e less greater bang h = no_minus b c e h
by_minus false b c e less greater bang h = no_other b c less greater bang e h

by_bang : (v : Bool) (b c : ℕ) → (b == 33) ≡ v → (b == 60) ≡ false → (b == 62) ≡ false → is_pair b c ≡ false → IsNoPair b c
by_bang true b c e less greater h = no_bang b c e h
by_bang false b c e less greater h = by_minus (b == 45) b c refl less greater e h

by_greater : (v : Bool) (b c : ℕ) → (b == 62) ≡ v → (b == 60) ≡ false → is_pair b c ≡ false → IsNoPair b c
by_greater true b c e less h = no_greater b c e h
by_greater false b c e less h = by_bang (b == 33) b c refl less e h

by_less : (v : Bool) (b c : ℕ) → (b == 60) ≡ v → is_pair b c ≡ false → IsNoPair b c
by_less true b c e h = no_less b c e h
by_less false b c e h = by_greater (b == 62) b c refl e h

pub no_pair : (b c : ℕ) → is_pair b c ≡ false → IsNoPair b c
no_pair b c h = by_less (b == 60) b c refl h

either_none : (v w : Bool) (m n : Mark) → cond v (Some m) (cond w (Some n) None) ≡ None → (v || w) ≡ false
either_none true w m n h = cc
either_none false true m n h = cc
either_none false false m n h = refl

none_there : (v : Bool) (m : Mark) → cond v (Some m) None ≡ None → v ≡ false
none_there true m h = cc
none_there false m h = refl

pair_by_minus : (v : Bool) (b c : ℕ) → (b == 45) ≡ v → (b == 60) ≡ false → (b == 62) ≡ false → (b == 33) ≡ false → (b == 45 && c == 45) ≡ false → (b == 47 && c == 42) ≡ false → is_pair b c ≡ false
pair_by_minus true b c e less greater bang line block = rw (less, greater, bang, e) (rw e at line)
pair_by_minus false b c e less greater bang line block = rw (less, greater, bang, e) block

pair_by_bang : (v : Bool) (b c : ℕ) → (b == 33) ≡ v → (b == 60) ≡ false → (b == 62) ≡ false → (b == 45 && c == 45) ≡ false → (b == 47 && c == 42) ≡ false → mark_of_two b c ≡ None → is_pair b c ≡ false
pair_by_bang true b c e less greater line block none = rw (less, greater, e) (none_there (c == 61) NotEqual (rw (less, greater, e) at none))
pair_by_bang false b c e less greater line block none = pair_by_minus (b == 45) b c refl less greater e line block

pair_by_greater : (v : Bool) (b c : ℕ) → (b == 62) ≡ v → (b == 60) ≡ false → (b == 45 && c == 45) ≡ false → (b == 47 && c == 42) ≡ false → mark_of_two b c ≡ None → is_pair b c ≡ false
pair_by_greater true b c e less line block none = rw (less, e) (none_there (c == 61) AtLeast (rw (less, e) at none))
pair_by_greater false b c e less line block none = pair_by_bang (b == 33) b c refl less e line block none

pair_by_less : (v : Bool) (b c : ℕ) → (b == 60) ≡ v → (b == 45 && c == 45) ≡ false → (b == 47 && c == 42) ≡ false → mark_of_two b c ≡ None → is_pair b c ≡ false
pair_by_less true b c e line block none = rw e (either_none (c == 61) (c == 62) AtMost NotEqual (rw e at none))
pair_by_less false b c e line block none = pair_by_greater (b == 62) b c refl e line block none

-- two bytes that open no comment and are no mark are no pair
pub some_pair : (b c : ℕ) → (b == 45 && c == 45) ≡ false → (b == 47 && c == 42) ≡ false → mark_of_two b c ≡ None → is_pair b c ≡ false
some_pair b c line block none = pair_by_less (b == 60) b c refl line block none

alone_three : (v : Bool) (b : ℕ) → (b == 45) ≡ v → (b == 62 || b == 33) ≡ false → (b == 60) ≡ false → is_pair b 32 ≡ false
alone_three true b e greater less = rw (less, greater, e) refl
alone_three false b e greater less = rw (less, greater, e) (and_false (b == 47))

alone_two : (v : Bool) (b : ℕ) → (b == 62 || b == 33) ≡ v → (b == 60) ≡ false → is_pair b 32 ≡ false
alone_two true b e less = rw (less, e) refl
alone_two false b e less = alone_three (b == 45) b refl e less

alone_one : (v : Bool) (b : ℕ) → (b == 60) ≡ v → is_pair b 32 ≡ false
alone_one true b e = rw e refl
alone_one false b e = alone_two (b == 62 || b == 33) b refl e

-- a space makes a pair with no sign
pub alone_sign : (b : ℕ) → is_pair b 32 ≡ false
alone_sign b = alone_one (b == 60) b refl
