-- The piece that is found stands in front.
use Rattle.std.proofs.Common.{◌≡◌, ℕ, ◌+◌, ◌-◌, Bool, true, false, cond, List, [], ◌∷◌, ◌++◌, length, take, drop, arith, ap, sym, ◌∙◌, refl, inl, inr, map, Option, add-one, length-append, append_assoc, append-nil}
use Rattle.std.proofs.lemmas.List.{take-append-drop, length-take-le}
use Rattle.std.proofs.lemmas.Bool.{eqb-true}
use Rattle.std.specs.Prelude.{Some, None, ◌==◌, ◌&&◌}
use Rattle.std.specs.List.{list_all, prefix_len}
use Rattle.std.specs.Char.{to_ascii_lowercase}
use Rattle.page_base.specs.Name.{IsName, is_name_byte}
use Rattle.sql_lex.specs.declared.token.Mark.{Mark}
use Rattle.sql_lex.specs.declared.token.TokenKind.{TokenKind}
use Rattle.sql_lex.specs.declared.token.TokenKind.TheVariants as kind
use Rattle.sql_lex.specs.declared.token.TokenKind.TheVariants.{Key, Named, Number, Bracketed, Text, Bad, End}
use Rattle.sql_lex.specs.Texts.{is_quote, doubled, quoted, undoubled, text_end, is_name}
use Rattle.sql_lex.specs.Comments.{is_in_line, comment_end}
use Rattle.sql_lex.specs.Tokens.{is_white, goes_on, starts, is_pair, IsMark, in_brackets, Spells, IsPiece, white, line, comment, word, text, bracketed, pair, mark, open_text, open_comment, stray}
use Rattle.sql_lex.specs.Cut.{Piece, run_piece, text_piece, bracket_piece, is_bracket, mark_of_one, mark_of_two, mark_piece, pair_piece, comment_piece, sign_piece, name_len, piece_of}
use Rattle.sql_lex.proofs.BoolLemmas.{clash, both_hold}
use Rattle.sql_lex.proofs.RunLemmas.{prefix_within, prefix_stops, prefix_exact, front_passes, all_pass, name_passes, is_name_is}
use Rattle.sql_lex.proofs.TextLemmas.{text_ends, none_closed, undoubled-doubled}
use Rattle.sql_lex.proofs.CommentLemmas.{comment_in_front, none_open}
use Rattle.sql_lex.proofs.SignLemmas.{mark_signs, one_mark, two_mark, some_pair}
use Rattle.sql_lex.proofs.KindLemmas.{run_token, digit_is_name}
use Rattle.std.proofs.Math.Seq.{take-append_seam, drop-append_seam}

-- a piece of so many bytes stands in front
pub record Stands (bytes : List ℕ) (what : Option TokenKind) (len : ℕ) : Type 0 where
  pub front : List ℕ
  pub rest : List ℕ
  pub split : bytes ≡ front ++ rest
  pub is : IsPiece front rest what
  pub long : len ≡ length front

abbrev pub StandsAs : List ℕ → Piece → Type 0
StandsAs bytes piece = Stands bytes piece.0 piece.1

either : (bytes : List ℕ) (v : Bool) (p q : Piece) → (v ≡ true → StandsAs bytes p) → (v ≡ false → StandsAs bytes q) → StandsAs bytes (cond v p q)
either bytes true p q h i = h refl
either bytes false p q h i = i refl

word_stands : (b : ℕ) (bs : List ℕ) → is_name_byte b ≡ true → StandsAs (b ∷ bs) (run_piece (b ∷ bs) (prefix_len (goes_on b) bs + 1))
word_stands b bs letter =
    let n : ℕ = prefix_len (goes_on b) bs in
    let all : list_all (goes_on b) (take n bs) ≡ true = front_passes (goes_on b) bs in
    let long : length (take n bs) ≡ n = length-take-le n bs (prefix_within (goes_on b) bs) in
    rw add-one (record {
      front = b ∷ take n bs;
      rest = drop n bs;
      split = ap (λ (cs : List ℕ). b ∷ cs) (sym (take-append-drop n bs));
      is = word b (take n bs) (drop n bs) _ letter all (prefix_stops (goes_on b) bs) (run_token b (take n bs) (letter, all));
      long = omega (arith, long);
    })

text_stands : (bs : List ℕ) (o : Option ℕ) → text_end false 0 bs ≡ o → StandsAs (39 ∷ bs) (text_piece bs o)
text_stands bs None e = record { front = 39 ∷ bs; rest = []; split = sym (append-nil (39 ∷ bs)); is = open_text bs (none_closed bs e); long = omega arith }
text_stands bs (Some n) e =
    let h = text_ends bs 0 n e in
    let before : n - 1 ≡ length (doubled h.text) = omega (arith, h.long) in
    let content : undoubled (take (n - 1) bs) ≡ h.text = rw before (ap (λ (cs : List ℕ). undoubled (take (length (doubled h.text)) cs)) h.split ∙ rw (take-append_seam (doubled h.text) (39 ∷ h.rest)) (undoubled-doubled h.text)) in
    rw content (record {
      front = quoted h.text;
      rest = h.rest;
      split = ap (λ (cs : List ℕ). 39 ∷ cs) (h.split ∙ sym (append_assoc (doubled h.text) (39 ∷ []) h.rest));
      is = text h.text h.rest h.printable h.stops;
      long = simp length-append (omega (arith, h.long));
    })

-- Where a token begins with none of these bytes, no front spells one.
pub record BeginsNone (b : ℕ) (rest : List ℕ) : Type 0 where
  pub other : is_name_byte b ≡ false
  pub plain : is_quote b ≡ false
  pub bracket : (letters more : List ℕ) → IsName letters → b ∷ rest ≡ in_brackets letters ++ more → ⊥
  pub sign : (m : Mark) (front more : List ℕ) → IsMark m front → b ∷ rest ≡ front ++ more → ⊥

name_begins : (b c : ℕ) (rest cs others : List ℕ) → BeginsNone b rest → IsName (c ∷ cs) → b ∷ rest ≡ c ∷ (cs ++ others) → ⊥
name_begins b c rest cs others none name e = let same : b ≡ c = cc in clash (is_name_byte b) (rw same (name.each 0 0 (omega arith))) none.other

lost : (b : ℕ) (rest front others : List ℕ) (k : TokenKind) → BeginsNone b rest → Spells front k → b ∷ rest ≡ front ++ others → ⊥
lost b rest [] others (Key w) none h e = absurd (omega (arith, h.0.some))
lost b rest (c ∷ cs) others (Key w) none h e = name_begins b c rest cs others none h.0 e
lost b rest [] others (Named name) none h e = absurd (omega (arith, h.0.some))
lost b rest (c ∷ cs) others (Named name) none h e = name_begins b c rest cs others none h.0 e
lost b rest [] others (Number n) none h e = cc (h.0.0)
lost b rest (c ∷ cs) others (Number n) none h e = let same : b ≡ c = cc in clash (is_name_byte b) (digit_is_name b (rw same h.0.0)) none.other
lost b rest front others (Text content) none h e =
    let all : b ∷ rest ≡ quoted content ++ others = e ∙ ap (λ (cs : List ℕ). cs ++ others) h.0 in
    let same : b ≡ 39 = cc in clash (is_quote b) (rw same refl) none.plain
lost b rest front others (Bracketed name) none (letters, split, is, low) e = none.bracket letters others is (e ∙ ap (λ (cs : List ℕ). cs ++ others) split)
lost b rest front others (kind.Mark m) none h e = none.sign m front others h e
lost b rest front others Bad none h e = absurd h
lost b rest front others End none h e = absurd h

stray_stands : (b : ℕ) (rest : List ℕ) → is_white b ≡ false → starts (is_pair b) rest ≡ false → BeginsNone b rest → StandsAs (b ∷ rest) (Some Bad, 1)
stray_stands b rest dark alone none = record {
  front = b ∷ [];
  rest = rest;
  split = refl;
  is = stray b rest dark none.plain alone (λ front others k h e. lost b rest front others k none h e);
  long = refl;
}

-- no mark begins with a bracket
bracket_no_mark : (rest : List ℕ) (m : Mark) (front more : List ℕ) → IsMark m front → 91 ∷ rest ≡ front ++ more → ⊥
bracket_no_mark rest m front more h e = elim (mark_signs m front h) [
  | inl one ↦ (let all : 91 ∷ rest ≡ one.byte ∷ more = e ∙ ap (λ (cs : List ℕ). cs ++ more) one.is in let same : one.byte ≡ 91 = cc in clash (one.byte == 91) (rw same refl) one.sign.free)
  | inr two ↦ (let all : 91 ∷ rest ≡ two.first ∷ two.second ∷ more = e ∙ ap (λ (cs : List ℕ). cs ++ more) two.is in let same : two.first ≡ 91 = cc in clash (two.first == 91) (rw same refl) two.sign.free)
]

-- a name in brackets is found
named : (rest letters more : List ℕ) → IsName letters → 91 ∷ rest ≡ in_brackets letters ++ more → (is_name (take (name_len rest) rest) ≡ true) × (starts is_bracket (drop (name_len rest) rest) ≡ true)
named rest letters more name e =
    let tail : rest ≡ (letters ++ 93 ∷ []) ++ more = cc in
    let split : rest ≡ letters ++ 93 ∷ more = tail ∙ append_assoc letters (93 ∷ []) more in
    let all : list_all is_name_byte letters ≡ true = all_pass is_name_byte letters (λ i d within. name.each i d within) in
    let n : name_len (letters ++ 93 ∷ more) ≡ length letters = prefix_exact is_name_byte letters (93 ∷ more) all refl in
    rw (split, n, take-append_seam letters (93 ∷ more), drop-append_seam letters (93 ∷ more)) (name_passes letters name, refl)

bracket_none : (rest : List ℕ) → ((is_name (take (name_len rest) rest) ≡ true) × (starts is_bracket (drop (name_len rest) rest) ≡ true) → ⊥) → BeginsNone 91 rest
bracket_none rest never = record {
  other = refl;
  plain = refl;
  bracket = λ letters more name e. never (named rest letters more name e);
  sign = λ m front more h e. bracket_no_mark rest m front more h e;
}

alone_bracket : (rest : List ℕ) → starts (is_pair 91) rest ≡ false
alone_bracket [] = refl
alone_bracket (c ∷ cs) = refl

closed_stands : (letters behind : List ℕ) → is_name letters ≡ true → starts is_bracket behind ≡ true → Stands (91 ∷ (letters ++ behind)) (Some (Bracketed (map to_ascii_lowercase letters))) (length letters + 2)
closed_stands letters [] name h = cc
closed_stands letters (c ∷ cs) name h =
    let same : c ≡ 93 = eqb-true c 93 h in
    record {
      front = in_brackets letters;
      rest = cs;
      split = ap (λ (xs : List ℕ). 91 ∷ xs) (ap (λ x. letters ++ x ∷ cs) same ∙ sym (append_assoc letters (93 ∷ []) cs));
      is = bracketed letters cs (is_name_is letters name);
      long = simp length-append (omega arith);
    }

bracket_stands : (rest : List ℕ) → StandsAs (91 ∷ rest) (bracket_piece (take (name_len rest) rest) (drop (name_len rest) rest))
bracket_stands rest =
    let letters : List ℕ = take (name_len rest) rest in
    let behind : List ℕ = drop (name_len rest) rest in
    either (91 ∷ rest) (is_name letters) _ _
    (λ name. either (91 ∷ rest) (starts is_bracket behind) _ _
    (λ close. rw (take-append-drop (name_len rest) rest) at (closed_stands letters behind name close))
    (λ other. stray_stands 91 rest refl (alone_bracket rest) (bracket_none rest (λ both. clash (starts is_bracket behind) both.1 other))))
    (λ unnamed. stray_stands 91 rest refl (alone_bracket rest) (bracket_none rest (λ both. clash (is_name letters) both.0 unnamed)))

line_stands : (cs : List ℕ) → StandsAs (45 ∷ 45 ∷ cs) (None, prefix_len is_in_line cs + 2)
line_stands cs =
    let n : ℕ = prefix_len is_in_line cs in
    let long : length (take n cs) ≡ n = length-take-le n cs (prefix_within is_in_line cs) in
    record {
      front = 45 ∷ 45 ∷ take n cs;
      rest = drop n cs;
      split = ap (λ (xs : List ℕ). 45 ∷ 45 ∷ xs) (sym (take-append-drop n cs));
      is = line (take n cs) (drop n cs) (front_passes is_in_line cs) (prefix_stops is_in_line cs);
      long = omega (arith, long);
    }

comment_stands : (cs : List ℕ) (o : Option ℕ) → comment_end 0 0 0 cs ≡ o → StandsAs (47 ∷ 42 ∷ cs) (comment_piece cs o)
comment_stands cs None e = record { front = 47 ∷ 42 ∷ cs; rest = []; split = sym (append-nil (47 ∷ 42 ∷ cs)); is = open_comment cs (none_open cs e); long = omega arith }
comment_stands cs (Some n) e =
    let h = comment_in_front cs n e in
    record { front = 47 ∷ 42 ∷ h.inside; rest = h.rest; split = ap (λ (xs : List ℕ). 47 ∷ 42 ∷ xs) h.split; is = comment h.inside h.rest h.closes; long = omega (arith, h.long) }

-- a byte that is none of letters, digits, `_`, quote and bracket, and no mark with what follows
no_mark : (b : ℕ) (rest : List ℕ) (m : Mark) (front more : List ℕ) → mark_of_one b ≡ None → ((c : ℕ) (cs : List ℕ) → rest ≡ c ∷ cs → mark_of_two b c ≡ None) → IsMark m front → b ∷ rest ≡ front ++ more → ⊥
no_mark b rest m front more one two h e = elim (mark_signs m front h) [
  | inl s ↦ (let all : b ∷ rest ≡ s.byte ∷ more = e ∙ ap (λ (cs : List ℕ). cs ++ more) s.is in let same : b ≡ s.byte = cc in let found : mark_of_one b ≡ Some m = ap mark_of_one same ∙ s.found in cc)
  | inr s ↦ (let all : b ∷ rest ≡ s.first ∷ s.second ∷ more = e ∙ ap (λ (cs : List ℕ). cs ++ more) s.is in let same : b ≡ s.first = cc in let tail : rest ≡ s.second ∷ more = cc in
      let none : mark_of_two b s.second ≡ None = two s.second more tail in
      let found : mark_of_two b s.second ≡ Some m = ap (λ x. mark_of_two x s.second) same ∙ s.found in cc)
]

sign_none : (b : ℕ) (rest : List ℕ) → is_name_byte b ≡ false → is_quote b ≡ false → (b == 91) ≡ false → mark_of_one b ≡ None → ((c : ℕ) (cs : List ℕ) → rest ≡ c ∷ cs → mark_of_two b c ≡ None) → BeginsNone b rest
sign_none b rest other plain free one two = record {
  other = other;
  plain = plain;
  bracket = λ letters more name e. (let same : b ≡ 91 = cc in clash (b == 91) (rw same refl) free);
  sign = λ m front more h e. no_mark b rest m front more one two h e;
}

one_stands : (b : ℕ) (rest : List ℕ) (o : Option Mark) → mark_of_one b ≡ o → is_white b ≡ false → is_name_byte b ≡ false → is_quote b ≡ false → (b == 91) ≡ false → starts (is_pair b) rest ≡ false
    → ((c : ℕ) (cs : List ℕ) → rest ≡ c ∷ cs → mark_of_two b c ≡ None) → StandsAs (b ∷ rest) (mark_piece o)
one_stands b rest None e dark other plain free alone two = stray_stands b rest dark alone (sign_none b rest other plain free e two)
one_stands b rest (Some m) e dark other plain free alone two = record { front = b ∷ []; rest = rest; split = refl; is = mark b rest m (one_mark b m e) alone; long = refl }

two_stands : (b c : ℕ) (cs : List ℕ) (o : Option Mark) → mark_of_two b c ≡ o → is_white b ≡ false → is_name_byte b ≡ false → is_quote b ≡ false → (b == 91) ≡ false → (b == 45 && c == 45) ≡ false → (b == 47 && c == 42) ≡ false
    → StandsAs (b ∷ c ∷ cs) (pair_piece b o)
two_stands b c cs (Some m) e dark other plain free dash slash = record { front = b ∷ c ∷ []; rest = cs; split = refl; is = pair b c cs m (two_mark b c m e); long = refl }
two_stands b c cs None e dark other plain free dash slash =
    one_stands b (c ∷ cs) (mark_of_one b) refl dark other plain free (some_pair b c dash slash e) (λ d ds same. (let first : c ≡ d = cc in ap (mark_of_two b) (sym first) ∙ e))

line_sign : (b c : ℕ) (cs : List ℕ) → (b == 45 && c == 45) ≡ true → StandsAs (b ∷ c ∷ cs) (None, prefix_len is_in_line cs + 2)
line_sign b c cs h =
    let both = both_hold (b == 45) (c == 45) h in
    rw (eqb-true b 45 both.0, eqb-true c 45 both.1) (line_stands cs)

block_sign : (b c : ℕ) (cs : List ℕ) → (b == 47 && c == 42) ≡ true → StandsAs (b ∷ c ∷ cs) (comment_piece cs (comment_end 0 0 0 cs))
block_sign b c cs h =
    let both = both_hold (b == 47) (c == 42) h in
    rw (eqb-true b 47 both.0, eqb-true c 42 both.1) (comment_stands cs (comment_end 0 0 0 cs) refl)

sign_stands : (b : ℕ) (rest : List ℕ) → is_white b ≡ false → is_name_byte b ≡ false → is_quote b ≡ false → (b == 91) ≡ false → StandsAs (b ∷ rest) (sign_piece b rest)
sign_stands b [] dark other plain free = one_stands b [] (mark_of_one b) refl dark other plain free refl (λ c cs e. cc)
sign_stands b (c ∷ cs) dark other plain free =
    either (b ∷ c ∷ cs) (b == 45 && c == 45) _ _ (λ h. line_sign b c cs h) (λ dash.
    either (b ∷ c ∷ cs) (b == 47 && c == 42) _ _ (λ h. block_sign b c cs h) (λ slash.
    two_stands b c cs (mark_of_two b c) refl dark other plain free dash slash))

quote_stands : (b : ℕ) (bs : List ℕ) → is_quote b ≡ true → StandsAs (b ∷ bs) (text_piece bs (text_end false 0 bs))
quote_stands b bs h = rw (eqb-true b 39 h) (text_stands bs (text_end false 0 bs) refl)

free_stands : (b : ℕ) (bs : List ℕ) → (b == 91) ≡ true → StandsAs (b ∷ bs) (bracket_piece (take (name_len bs) bs) (drop (name_len bs) bs))
free_stands b bs h = rw (eqb-true b 91 h) (bracket_stands bs)

-- what is found stands in front
pub stands : (b : ℕ) (bs : List ℕ) → StandsAs (b ∷ bs) (piece_of (b ∷ bs))
stands b bs =
    either (b ∷ bs) (is_white b) _ _ (λ h. record { front = b ∷ []; rest = bs; split = refl; is = white b bs h; long = refl }) (λ dark.
    either (b ∷ bs) (is_name_byte b) _ _ (λ letter. word_stands b bs letter) (λ other.
    either (b ∷ bs) (is_quote b) _ _ (λ h. quote_stands b bs h) (λ plain.
    either (b ∷ bs) (b == 91) _ _ (λ h. free_stands b bs h) (λ free. sign_stands b bs dark other plain free))))
