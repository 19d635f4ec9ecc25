-- Pieces of a line.
use Rattle.std.proofs.Common.{Bor, ◌≡◌, ◌≢◌, ℕ, suc, ◌+◌, ◌≤◌, Bool, true, false, cond, not, List, [], ◌∷◌, ◌++◌, length, take, drop, refl, sym, ap, ◌∙◌, arith, append_assoc, append-nil}
use Rattle.std.specs.Prelude.{Option, Some, None, IsTrue, ◌↔◌, is_some}
use Rattle.std.specs.Option.{option_copied}
use Rattle.std.specs.List.{onto_first}
use Rattle.reply_text.specs.Pieces.{pieces, piece_len, pieces_of, behind_first, parts_at, quoted_behind, behind_separator, parted, alone}

onto_some : (b : ℕ) (ls : List (List ℕ)) → onto_first b ls ≢ []
onto_some b [] h = cc
onto_some b (l ∷ ls) h = cc

some_by : (v : Bool) (b : ℕ) (xs ys : List (List ℕ)) → cond v ([] ∷ xs) (onto_first b ys) ≢ []
some_by true b xs ys h = cc
some_by false b xs ys h = onto_some b ys h

-- bytes have a piece
pub pieces_some : (sep : ℕ) (inside : Bool) (bytes : List ℕ) → pieces sep inside bytes ≢ []
pieces_some sep inside [] h = cc
pieces_some sep inside (b ∷ bs) h = some_by (parts_at sep inside b) b (pieces sep false bs) (pieces sep (quoted_behind inside b) bs) h

-- the first piece stands in front of the others
abbrev Cuts : ℕ → Bool → List ℕ → Type 0
Cuts sep inside bytes = pieces sep inside bytes ≡ take (piece_len sep inside bytes) bytes ∷ pieces_of sep (behind_first (drop (piece_len sep inside bytes) bytes))

cuts_by : (v : Bool) (sep b : ℕ) (inside : Bool) (bs : List ℕ) → parts_at sep inside b ≡ v → Cuts sep (quoted_behind inside b) bs → Cuts sep inside (b ∷ bs)
cuts_by true sep b inside bs e h = rw e refl
cuts_by false sep b inside bs e h = rw (e, h) refl

pub cuts : (sep : ℕ) (inside : Bool) (bytes : List ℕ) → pieces sep inside bytes ≡ take (piece_len sep inside bytes) bytes ∷ pieces_of sep (behind_first (drop (piece_len sep inside bytes) bytes))
cuts sep inside [] = refl
cuts sep inside (b ∷ bs) = cuts_by (parts_at sep inside b) sep b inside bs refl (cuts sep (quoted_behind inside b) bs)

-- none is left where there is no rest
pub over_is : (sep : ℕ) (rest : Option (Bor (List ℕ))) (now : List (List ℕ)) (b : Bool) → pieces_of sep (option_copied rest) ≡ now → is_some rest ≡ not b → IsTrue b ↔ (now ≡ [])
over_is sep None now true e h = (λ _. sym e, λ _. refl)
over_is sep None now false e h = (λ t. cc, λ _. cc)
over_is sep (Some x) now true e h = (λ _. cc, λ _. refl)
over_is sep (Some x) now false e h = (λ t. cc, λ empty. absurd (pieces_some sep false x.now (e ∙ empty)))
