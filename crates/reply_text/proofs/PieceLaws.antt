-- Pieces that are put together are told apart again.
use Rattle.std.proofs.Common.{◌≡◌, ◌≢◌, ℕ, suc, ◌+◌, ◌-◌, ◌≤◌, ◌<◌, Bool, true, false, cond, not, ◌&&◌, ◌||◌, ◌==◌, List, [], ◌∷◌, ◌++◌, length, take, drop, refl, sym, ap, subst, ◌∙◌, arith, append_assoc, append-nil, length-append, eqb-true, eq-eqb, inl, inr}
use Rattle.std.specs.Prelude.{Option, Some, None, nat_le, flat_map}
use Rattle.std.specs.List.{onto_first, list_all}
use Rattle.std.specs.Str.{bytes_eq}
use Rattle.std.proofs.lemmas.Bool.{and_parts, cases_Bool}
use Rattle.std.proofs.Math.Seq.{take-append_seam, drop-append_seam}
use Rattle.std.proofs.lemmas.List.{take-append-drop}
use Rattle.std.proofs.lemmas.Slice.Eq.{bytes_eq-Decides}
use Rattle.reply_text.specs.Pieces.{pieces, parts_at, quoted_behind, behind_separator, parted, alone, behind, before}
use Rattle.reply_text.proofs.PieceLemmas.{pieces_some}
use Rattle.reply_text.proofs.Options.{guarded, both}

-- no separator stands outside quotes, and all quotes are closed
abbrev pub closes : ℕ → Bool → List ℕ → Bool
closes sep inside [] = not inside
closes sep inside (b ∷ bs) = not (parts_at sep inside b) && closes sep (quoted_behind inside b) bs

not_true : (b : Bool) → not b ≡ true → b ≡ false
not_true true h = cc
not_true false h = refl

-- the last piece
pub pieces_last : (sep : ℕ) (inside : Bool) (piece : List ℕ) → closes sep inside piece ≡ true → pieces sep inside piece ≡ piece ∷ []
pieces_last sep inside [] h = refl
pieces_last sep inside (b ∷ bs) h =
    let here = and_parts (not (parts_at sep inside b)) (closes sep (quoted_behind inside b) bs) h in
    rw (not_true (parts_at sep inside b) here.0, pieces_last sep (quoted_behind inside b) bs here.1) refl

same_byte : (b : ℕ) → (b == b) ≡ true
same_byte b = eq-eqb b b refl

-- a piece before a separator
pub pieces_more : (sep : ℕ) (inside : Bool) (piece rest : List ℕ) → closes sep inside piece ≡ true → pieces sep inside (piece ++ sep ∷ rest) ≡ piece ∷ pieces sep false rest
pieces_more sep true [] rest h = cc
pieces_more sep false [] rest h = rw (same_byte sep) refl
pieces_more sep inside (b ∷ bs) rest h =
    let here = and_parts (not (parts_at sep inside b)) (closes sep (quoted_behind inside b) bs) h in
    rw (not_true (parts_at sep inside b) here.0, pieces_more sep (quoted_behind inside b) bs rest here.1) refl

-- pieces with separators between them are those pieces
pub pieces-parted : (sep : ℕ) (piece : List ℕ) (more : List (List ℕ)) → list_all (closes sep false) (piece ∷ more) ≡ true → pieces sep false (parted sep (piece ∷ more)) ≡ piece ∷ more
pieces-parted sep piece [] h = rw (append-nil piece) (pieces_last sep false piece (and_parts (closes sep false piece) true h).0)
pieces-parted sep piece (next ∷ more) h =
    let here = and_parts (closes sep false piece) (list_all (closes sep false) (next ∷ more)) h in
    pieces_more sep false piece (parted sep (next ∷ more)) here.0 ∙ ap (λ (ps : List (List ℕ)). piece ∷ ps) (pieces-parted sep next more here.1)

parted_onto : (sep b : ℕ) (ps : List (List ℕ)) → ps ≢ [] → parted sep (onto_first b ps) ≡ b ∷ parted sep ps
parted_onto sep b [] some = absurd (some refl)
parted_onto sep b (p ∷ ps) some = refl

parted_break : (sep : ℕ) (ps : List (List ℕ)) → ps ≢ [] → parted sep ([] ∷ ps) ≡ sep ∷ parted sep ps
parted_break sep [] some = absurd (some refl)
parted_break sep (p ∷ ps) some = refl

parted_by : (v : Bool) (sep b : ℕ) (inside : Bool) (bs : List ℕ) → parts_at sep inside b ≡ v → parted sep (pieces sep false bs) ≡ bs → parted sep (pieces sep (quoted_behind inside b) bs) ≡ bs → parted sep (pieces sep inside (b ∷ bs)) ≡ b ∷ bs
parted_by true sep b inside bs e h other =
    let same : b ≡ sep = eqb-true b sep (and_parts (b == sep) (not inside) e).0 in
    rw e (parted_break sep (pieces sep false bs) (pieces_some sep false bs) ∙ rw h (ap (λ (c : ℕ). c ∷ bs) (sym same)))
parted_by false sep b inside bs e h other = rw e (parted_onto sep b (pieces sep (quoted_behind inside b) bs) (pieces_some sep (quoted_behind inside b) bs) ∙ ap (λ (xs : List ℕ). b ∷ xs) other)

-- the pieces of bytes, with separators between them, are the bytes
pub parted-pieces : (sep : ℕ) (inside : Bool) (bytes : List ℕ) → parted sep (pieces sep inside bytes) ≡ bytes
parted-pieces sep inside [] = refl
parted-pieces sep inside (b ∷ bs) = parted_by (parts_at sep inside b) sep b inside bs refl (parted-pieces sep false bs) (parted-pieces sep (quoted_behind inside b) bs)

-- bytes of which none is a quote, a space, a comma or a line feed
abbrev pub is_plain_byte : ℕ → Bool
is_plain_byte b = nat_le 42 b && not (b == 44)

abbrev pub is_plain : List ℕ → Bool
is_plain word = list_all is_plain_byte word

-- a byte that a plain one isn't
abbrev pub IsOther : ℕ → Type 0
IsOther sep = (b : ℕ) → is_plain_byte b ≡ true → (b == sep) ≡ false

-- a byte that is plain isn't one that isn't
pub plain_other : (b sep : ℕ) → is_plain_byte b ≡ true → is_plain_byte sep ≡ false → (b == sep) ≡ false
plain_other b sep h e = elim (cases_Bool (b == sep)) [
  | inl same ↦ (let there : is_plain_byte sep ≡ true = subst (λ (c : ℕ). is_plain_byte c ≡ true) (eqb-true b sep same) h in cc)
  | inr isnt ↦ isnt
]

pub plain_closes : (sep : ℕ) → IsOther sep → IsOther 39 → (word : List ℕ) → is_plain word ≡ true → closes sep false word ≡ true
plain_closes sep other quote [] h = refl
plain_closes sep other quote (b ∷ bs) h =
    let here = and_parts (is_plain_byte b) (is_plain bs) h in
    rw (other b here.0, quote b here.0) (plain_closes sep other quote bs here.1)

-- the only piece
pub alone_is : (words : List (List ℕ)) (w : List ℕ) → alone words ≡ Some w → words ≡ w ∷ []
alone_is [] w h = cc
alone_is (x ∷ []) w h = cc
alone_is (x ∷ y ∷ words) w h = cc

pub eq_of : (xs ys : List ℕ) → bytes_eq xs ys ≡ true → xs ≡ ys
eq_of xs ys = (bytes_eq-Decides xs ys).0

pub eq_to : (xs ys : List ℕ) → xs ≡ ys → bytes_eq xs ys ≡ true
eq_to xs ys = (bytes_eq-Decides xs ys).1

pub behind_is : (front line rest : List ℕ) → behind front line ≡ Some rest → line ≡ front ++ rest
behind_is front line rest h =
    let known = guarded (bytes_eq (take (length front) line) front) (drop (length front) line) rest h in
    sym (take-append-drop (length front) line) ∙ ap (λ (xs : List ℕ). xs ++ drop (length front) line) (eq_of (take (length front) line) front known.0) ∙ ap (λ (xs : List ℕ). front ++ xs) known.1

pub behind_front : (front rest : List ℕ) → behind front (front ++ rest) ≡ Some rest
behind_front front rest = rw (take-append_seam front rest, drop-append_seam front rest, eq_to front front refl) refl

pub before_is : (end line front : List ℕ) → before end line ≡ Some front → line ≡ front ++ end
before_is end line front h =
    let n : ℕ = length line - length end in
    let known = guarded (bytes_eq (drop n line) end) (take n line) front h in
    sym (take-append-drop n line) ∙ ap (λ (xs : List ℕ). take n line ++ xs) (eq_of (drop n line) end known.0) ∙ ap (λ (xs : List ℕ). xs ++ end) known.1

pub before_end : (end front : List ℕ) → before end (front ++ end) ≡ Some front
before_end end front =
    let long : length (front ++ end) - length end ≡ length front = simp length-append (omega arith) in
    rw (long, take-append_seam front end, drop-append_seam front end, eq_to end end refl) refl
