-- The piece that stands in front is the one that is found.
use Rattle.std.proofs.Common.{◌≡◌, ℕ, ◌+◌, ◌-◌, ◌≤◌, Bool, true, false, cond, List, [], ◌∷◌, ◌++◌, length, take, drop, arith, ap, sym, ◌∙◌, refl, inl, inr, ◌⊎◌, subst, map, Option, add-one, length-append, append_assoc, append-nil}
use Rattle.std.proofs.Math.Seq.{take-append_seam, drop-append_seam}
use Rattle.std.proofs.lemmas.List.{take-append-drop}
use Rattle.std.proofs.lemmas.Bool.{eqb-true}
use Rattle.std.specs.Prelude.{Some, None, ◌==◌}
use Rattle.std.specs.List.{list_all}
use Rattle.std.specs.Char.{to_ascii_lowercase}
use Rattle.page_base.specs.Name.{IsName, is_name_byte}
use Rattle.sql_lex.specs.declared.token.Mark.{Mark}
use Rattle.sql_lex.specs.declared.token.TokenKind.{TokenKind}
use Rattle.sql_lex.specs.declared.token.TokenKind.TheVariants as kind
use Rattle.sql_lex.specs.declared.token.TokenKind.TheVariants.{Bracketed, Text, Bad}
use Rattle.sql_lex.specs.Texts.{is_quote, is_printable, doubled, quoted, is_name}
use Rattle.sql_lex.specs.Comments.{is_in_line, Closes, IsOpen}
use Rattle.sql_lex.specs.Tokens.{is_white, goes_on, starts, is_pair, in_brackets, IsToken, IsStray, IsUnclosed, IsPiece, white, line, comment, word, text, bracketed, pair, mark, open_text, open_comment, stray}
use Rattle.sql_lex.specs.Cut.{Piece, closed_name, bracket_piece, is_bracket, mark_of_one, mark_piece, sign_piece, name_len, piece_of}
use Rattle.sql_lex.proofs.BoolLemmas.{not_byte, is_false}
use Rattle.sql_lex.proofs.RunLemmas.{prefix_exact, all_pass, name_passes, is_name_is}
use Rattle.sql_lex.proofs.TextLemmas.{undoubled-doubled, ends, unclosed_none}
use Rattle.sql_lex.proofs.CommentLemmas.{comment_ends, open_none}
use Rattle.sql_lex.proofs.SignLemmas.{IsSign, OneSign, TwoSigns, mark_signs, one_mark, no_pair}
use Rattle.sql_lex.proofs.KindLemmas.{token_run, single_spelled}

-- a piece of so many bytes
abbrev as_piece : Option TokenKind → ℕ → Piece
as_piece what n = (what, n)

same_len : (what : Option TokenKind) (m n : ℕ) → m ≡ n → as_piece what m ≡ as_piece what n
same_len what m n e = ap (as_piece what) e

-- a letter, digit or `_` isn't white
pub dark_letter : (b : ℕ) → is_name_byte b ≡ true → is_white b ≡ false
dark_letter b h = rw (not_byte is_name_byte b 32 h refl, not_byte is_name_byte b 9 h refl, not_byte is_name_byte b 10 h refl) refl

line_found : (more rest : List ℕ) → list_all is_in_line more ≡ true → starts is_in_line rest ≡ false → piece_of (45 ∷ 45 ∷ (more ++ rest)) ≡ as_piece None (length (45 ∷ 45 ∷ more))
line_found more rest all stop = rw (prefix_exact is_in_line more rest all stop) (same_len None _ _ (omega arith))

comment_found : (inside rest : List ℕ) → Closes 1 inside → piece_of (47 ∷ 42 ∷ (inside ++ rest)) ≡ as_piece None (length (47 ∷ 42 ∷ inside))
comment_found inside rest h = rw (comment_ends inside rest h) (same_len None _ _ (omega arith))

word_found : (first : ℕ) (more rest : List ℕ) (what : TokenKind) → is_name_byte first ≡ true → list_all (goes_on first) more ≡ true → starts (goes_on first) rest ≡ false → IsToken (first ∷ more) what
    → piece_of (first ∷ (more ++ rest)) ≡ as_piece (Some what) (length (first ∷ more))
word_found first more rest what letter all stop is =
    rw (dark_letter first letter, letter, prefix_exact (goes_on first) more rest all stop, add-one, take-append_seam more rest, token_run first more what (letter, all) is) refl

text_is : (content rest bs : List ℕ) → list_all is_printable content ≡ true → starts is_quote rest ≡ false → bs ≡ doubled content ++ 39 ∷ rest
    → piece_of (39 ∷ bs) ≡ as_piece (Some (Text content)) (length (quoted content))
text_is content rest bs all stop split =
    let before : 0 + length (doubled content) + 1 - 1 ≡ length (doubled content) = omega arith in
    let long : 0 + length (doubled content) + 1 + 1 ≡ length (quoted content) = simp length-append (omega arith) in
    rw (split, ends content rest 0 all stop, before, take-append_seam (doubled content) (39 ∷ rest), undoubled-doubled content) (same_len (Some (Text content)) _ _ long)

bracket_is : (letters rest bs : List ℕ) → IsName letters → bs ≡ letters ++ 93 ∷ rest
    → piece_of (91 ∷ bs) ≡ as_piece (Some (Bracketed (map to_ascii_lowercase letters))) (length (in_brackets letters))
bracket_is letters rest bs name split =
    let all : list_all is_name_byte letters ≡ true = all_pass is_name_byte letters (λ i d within. name.each i d within) in
    let n : name_len (letters ++ 93 ∷ rest) ≡ length letters = prefix_exact is_name_byte letters (93 ∷ rest) all refl in
    let long : length letters + 2 ≡ length (in_brackets letters) = simp length-append (omega arith) in
    rw (split, n, take-append_seam letters (93 ∷ rest), drop-append_seam letters (93 ∷ rest), name_passes letters name) (same_len (Some (Bracketed (map to_ascii_lowercase letters))) _ _ long)

-- two signs that are a mark
pair_found : (m : Mark) (bytes rest : List ℕ) → (two : TwoSigns m bytes) → piece_of (two.first ∷ two.second ∷ rest) ≡ as_piece (Some (kind.Mark m)) 2
pair_found m bytes rest two = rw (two.sign.dark, two.sign.other, two.sign.plain, two.sign.free, two.line, two.block, two.found) refl

-- one sign that is a mark, where no pair begins
mark_found : (m : Mark) (b : ℕ) (rest : List ℕ) → IsSign b → mark_of_one b ≡ Some m → starts (is_pair b) rest ≡ false → piece_of (b ∷ rest) ≡ as_piece (Some (kind.Mark m)) 1
mark_found m b [] sign found alone = rw (sign.dark, sign.other, sign.plain, sign.free, found) refl
mark_found m b (c ∷ cs) sign found alone = let h = no_pair b c alone in rw (sign.dark, sign.other, sign.plain, sign.free, h.line, h.block, h.none, found) refl

pair_is : (b c : ℕ) (rest : List ℕ) (m : Mark) → OneSign m (b ∷ c ∷ []) ⊎ TwoSigns m (b ∷ c ∷ []) → piece_of (b ∷ c ∷ rest) ≡ as_piece (Some (kind.Mark m)) 2
pair_is b c rest m (inl one) = cc (one.is)
pair_is b c rest m (inr two) =
    let first : b ≡ two.first = cc (two.is) in
    let second : c ≡ two.second = cc (two.is) in
    ap (λ x. piece_of (x ∷ c ∷ rest)) first ∙ ap (λ x. piece_of (two.first ∷ x ∷ rest)) second ∙ pair_found m (b ∷ c ∷ []) rest two

mark_is : (b : ℕ) (rest : List ℕ) (m : Mark) → starts (is_pair b) rest ≡ false → OneSign m (b ∷ []) ⊎ TwoSigns m (b ∷ []) → piece_of (b ∷ rest) ≡ as_piece (Some (kind.Mark m)) 1
mark_is b rest m alone (inl one) =
    let same : one.byte ≡ b = cc (one.is) in
    mark_found m b rest (subst IsSign same one.sign) (ap mark_of_one (sym same) ∙ one.found) alone
mark_is b rest m alone (inr two) = cc (two.is)

open_text_found : (more : List ℕ) → IsUnclosed (39 ∷ more) → piece_of (39 ∷ more) ≡ as_piece (Some Bad) (length (39 ∷ more))
open_text_found more h = rw (unclosed_none more h) (same_len (Some Bad) _ _ (omega arith))

open_comment_found : (more : List ℕ) → IsOpen more → piece_of (47 ∷ 42 ∷ more) ≡ as_piece (Some Bad) (length (47 ∷ 42 ∷ more))
open_comment_found more h = rw (open_none more h) (same_len (Some Bad) _ _ (omega arith))

-- a sign that is no mark and begins none
no_mark : (b : ℕ) (rest : List ℕ) (o : Option Mark) → IsStray (b ∷ rest) → mark_of_one b ≡ o → mark_piece o ≡ as_piece (Some Bad) 1
no_mark b rest None lost e = refl
no_mark b rest (Some m) lost e = absurd (lost (b ∷ []) rest (kind.Mark m) (one_mark b m e) refl)

no_sign : (b : ℕ) (rest : List ℕ) → starts (is_pair b) rest ≡ false → IsStray (b ∷ rest) → sign_piece b rest ≡ as_piece (Some Bad) 1
no_sign b [] alone lost = no_mark b [] (mark_of_one b) lost refl
no_sign b (c ∷ cs) alone lost = let h = no_pair b c alone in rw (h.line, h.block, h.none) (no_mark b (c ∷ cs) (mark_of_one b) lost refl)

closed_one : (v : Bool) (letters rest : List ℕ) → starts is_bracket rest ≡ v → IsName letters → IsStray (91 ∷ (letters ++ rest)) → closed_name (map to_ascii_lowercase letters) (length letters) v ≡ as_piece (Some Bad) 1
closed_one false letters rest e name lost = refl
closed_one true letters [] e name lost = cc
closed_one true letters (c ∷ cs) e name lost =
    let same : c ≡ 93 = eqb-true c 93 e in
    let split : 91 ∷ (letters ++ c ∷ cs) ≡ in_brackets letters ++ cs = ap (λ (xs : List ℕ). 91 ∷ xs) (ap (λ x. letters ++ x ∷ cs) same ∙ sym (append_assoc letters (93 ∷ []) cs)) in
    absurd (lost (in_brackets letters) cs (Bracketed (map to_ascii_lowercase letters)) (letters, refl, name, refl) split)

bracket_one : (v : Bool) (letters rest : List ℕ) → is_name letters ≡ v → IsStray (91 ∷ (letters ++ rest)) → cond v (closed_name (map to_ascii_lowercase letters) (length letters) (starts is_bracket rest)) (as_piece (Some Bad) 1) ≡ as_piece (Some Bad) 1
bracket_one true letters rest e lost = closed_one (starts is_bracket rest) letters rest refl (is_name_is letters e) lost
bracket_one false letters rest e lost = refl

no_bracket : (rest : List ℕ) → IsStray (91 ∷ rest) → bracket_piece (take (name_len rest) rest) (drop (name_len rest) rest) ≡ as_piece (Some Bad) 1
no_bracket rest lost =
    let letters : List ℕ = take (name_len rest) rest in
    bracket_one (is_name letters) letters (drop (name_len rest) rest) refl (rw (take-append-drop (name_len rest) rest) lost)

stray_free : (v : Bool) (b : ℕ) (rest : List ℕ) → (b == 91) ≡ v → starts (is_pair b) rest ≡ false → IsStray (b ∷ rest)
    → cond v (bracket_piece (take (name_len rest) rest) (drop (name_len rest) rest)) (sign_piece b rest) ≡ as_piece (Some Bad) 1
stray_free true b rest e alone lost = let same : b ≡ 91 = eqb-true b 91 e in no_bracket rest (subst (λ x. IsStray (x ∷ rest)) same lost)
stray_free false b rest e alone lost = no_sign b rest alone lost

stray_other : (b : ℕ) (rest : List ℕ) → IsStray (b ∷ rest) → is_name_byte b ≡ false
stray_other b rest lost = is_false (is_name_byte b) (λ letter. let one = single_spelled b letter in lost (b ∷ []) rest one.0 one.1 refl)

stray_found : (b : ℕ) (rest : List ℕ) → is_white b ≡ false → is_quote b ≡ false → starts (is_pair b) rest ≡ false → IsStray (b ∷ rest) → piece_of (b ∷ rest) ≡ as_piece (Some Bad) 1
stray_found b rest dark plain alone lost = rw (dark, stray_other b rest lost, plain) (stray_free (b == 91) b rest refl alone lost)

-- what stands in front is found there
pub found : (front rest : List ℕ) (what : Option TokenKind) → IsPiece front rest what → piece_of (front ++ rest) ≡ as_piece what (length front)
found front rest what (white b _ h) = rw h refl
found front rest what (line more _ all stop) = line_found more rest all stop
found front rest what (comment inside _ h) = comment_found inside rest h
found front rest what (word first more _ kind letter all stop is) = word_found first more rest kind letter all stop is
found front rest what (text content _ all stop) = text_is content rest _ all stop (append_assoc (doubled content) (39 ∷ []) rest)
found front rest what (bracketed letters _ name) = bracket_is letters rest _ name (append_assoc letters (93 ∷ []) rest)
found front rest what (pair b c _ m is) = pair_is b c rest m (mark_signs m (b ∷ c ∷ []) is)
found front rest what (mark b _ m is alone) = mark_is b rest m alone (mark_signs m (b ∷ []) is)
found front rest what (open_text more h) = rw (append-nil more) (open_text_found more h)
found front rest what (open_comment more h) = rw (append-nil more) (open_comment_found more h)
found front rest what (stray b _ dark plain alone lost) = stray_found b rest dark plain alone lost

-- a piece has bytes
pub some_bytes : (front rest : List ℕ) (what : Option TokenKind) → IsPiece front rest what → 1 ≤ length front
some_bytes front rest what (white b _ h) = omega arith
some_bytes front rest what (line more _ all stop) = omega arith
some_bytes front rest what (comment inside _ h) = omega arith
some_bytes front rest what (word first more _ kind letter all stop is) = omega arith
some_bytes front rest what (text content _ all stop) = omega arith
some_bytes front rest what (bracketed letters _ name) = omega arith
some_bytes front rest what (pair b c _ m is) = omega arith
some_bytes front rest what (mark b _ m is alone) = omega arith
some_bytes front rest what (open_text more h) = omega arith
some_bytes front rest what (open_comment more h) = omega arith
some_bytes front rest what (stray b _ dark plain alone lost) = omega arith
