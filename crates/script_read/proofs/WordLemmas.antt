-- The words of a line, and the picks that they are.
use Rattle.std.proofs.Common.{◌≡◌, ℕ, suc, ◌+◌, Bool, true, false, cond, List, [], ◌∷◌, ◌++◌, take, drop, arith, ap, sym, ◌∙◌, refl, inl, inr, ◌⊎◌, append_assoc, Option}
use Rattle.std.specs.Prelude.{Some, None, ◌==◌, filter}
use Rattle.std.specs.List.{prefix_len, slice_split}
use Rattle.plain_model.specs.declared.pick.Pick.{Pick}
use Rattle.script_read.specs.Picks.{is_space, is_inside_word, is_word, words, pick_of, with_pick, picks_of}
use Rattle.script_read.specs.Steps.{Adds}

-- what stands behind the first piece
abbrev pub IsRest : List ℕ → List (List ℕ) → Type 0
IsRest rest more = ((more ≡ []) × (rest ≡ [])) ⊎ (more ≡ slice_split is_space rest)

pub record Pieces (line : List ℕ) : Type 0 where
  pub more : List (List ℕ)
  pub first : slice_split is_space line ≡ take (prefix_len is_inside_word line) line ∷ more
  pub rest : IsRest (drop (prefix_len is_inside_word line + 1) line) more

pieces_one : (v : Bool) (b : ℕ) (bs : List ℕ) → (b == 32) ≡ v → Pieces bs → Pieces (b ∷ bs)
pieces_one true b bs e h = record { more = slice_split is_space bs; first = rw e refl; rest = inr (rw e refl) }
pieces_one false b bs e h =
    let n : ℕ = prefix_len is_inside_word bs in
    let one : 1 + n ≡ suc n = omega arith in
    let two : 1 + n + 1 ≡ suc (n + 1) = omega arith in
    record { more = h.more; first = rw (e, h.first, one) refl; rest = rw (e, two) h.rest }

-- the first piece of a line, and those behind it
pub pieces : (line : List ℕ) → Pieces line
pieces [] = record { more = []; first = refl; rest = inl (refl, refl) }
pieces (b ∷ bs) = pieces_one (b == 32) b bs refl (pieces bs)

-- a word in front, unless it is empty
abbrev pub with_word : List ℕ → List (List ℕ) → List (List ℕ)
with_word word rest = cond (is_word word) (word ∷ rest) rest

rest_words : (rest : List ℕ) (more : List (List ℕ)) → IsRest rest more → filter is_word more ≡ words rest
rest_words rest more (inl h) = rw (h.0, h.1) refl
rest_words rest more (inr h) = rw h refl

-- the words of a line are the first, unless it is empty, and those behind it
pub words_first : (line : List ℕ) → words line ≡ with_word (take (prefix_len is_inside_word line) line) (words (drop (prefix_len is_inside_word line + 1) line))
words_first line =
    let h : Pieces line = pieces line in
    ap (filter is_word) h.first ∙ ap (with_word (take (prefix_len is_inside_word line) line)) (rest_words _ _ h.rest)

-- picks in front of others, where those are there
abbrev pub prefixed : List Pick → Option (List Pick) → Option (List Pick)
prefixed done None = None
prefixed done (Some picks) = Some (done ++ picks)

-- so far these picks were added, and these bytes are left
pub record Added (sessions : ℕ) (line rest : List ℕ) (old new : List Pick) : Type 0 where
  pub done : List Pick
  pub all : picks_of sessions (words line) ≡ prefixed done (picks_of sessions (words rest))
  pub new_is : new ≡ old ++ done

prefixed_none : (o : Option (List Pick)) → prefixed [] o ≡ o
prefixed_none None = refl
prefixed_none (Some picks) = refl

prefixed_twice : (done more : List Pick) (o : Option (List Pick)) → prefixed done (prefixed more o) ≡ prefixed (done ++ more) o
prefixed_twice done more None = refl
prefixed_twice done more (Some picks) = rw append_assoc refl

one_pick : (o : Option Pick) (p : Option (List Pick)) (more : List Pick) → with_pick o (Some []) ≡ Some more → with_pick o p ≡ prefixed more p
one_pick None p more e = cc
one_pick (Some pick) None more e = refl
one_pick (Some pick) (Some picks) more e = let same : pick ∷ [] ≡ more = cc in rw (← same) refl

first_picks : (v : Bool) (sessions : ℕ) (word : List ℕ) (rest : List (List ℕ)) (more : List Pick) → is_word word ≡ v → picks_of sessions (with_word word []) ≡ Some more
    → picks_of sessions (with_word word rest) ≡ prefixed more (picks_of sessions rest)
first_picks true sessions word rest more e h = rw e (one_pick (pick_of sessions word) (picks_of sessions rest) more (rw e at h))
first_picks false sessions word rest more e h = let same : [] ≡ more = cc (rw e at h) in rw (e, ← same) (sym (prefixed_none (picks_of sessions rest)))

no_pick : (o : Option Pick) (p : Option (List Pick)) → with_pick o (Some []) ≡ None → with_pick o p ≡ None
no_pick None p e = refl
no_pick (Some pick) p e = cc

no_picks : (v : Bool) (sessions : ℕ) (word : List ℕ) (rest : List (List ℕ)) → is_word word ≡ v → picks_of sessions (with_word word []) ≡ None → picks_of sessions (with_word word rest) ≡ None
no_picks true sessions word rest e h = rw e (no_pick (pick_of sessions word) (picks_of sessions rest) (rw e at h))
no_picks false sessions word rest e h = cc (rw e at h)

-- a word more was added
pub added_more : (sessions : ℕ) (line rest : List ℕ) (old new next : List Pick) → Added sessions line rest old new → Adds true new next (picks_of sessions (with_word (take (prefix_len is_inside_word rest) rest) []))
    → Added sessions line (drop (prefix_len is_inside_word rest + 1) rest) old next
added_more sessions line rest old new next h (more, e, f) =
    let word : List ℕ = take (prefix_len is_inside_word rest) rest in
    let behind : List ℕ = drop (prefix_len is_inside_word rest + 1) rest in
    let step : picks_of sessions (words rest) ≡ prefixed more (picks_of sessions (words behind))
    = ap (picks_of sessions) (words_first rest) ∙ first_picks (is_word word) sessions word (words behind) more refl e in
    record {
      done = h.done ++ more;
      all = h.all ∙ ap (prefixed h.done) step ∙ prefixed_twice h.done more (picks_of sessions (words behind));
      new_is = f ∙ ap (λ (ps : List Pick). ps ++ more) h.new_is ∙ append_assoc old h.done more;
    }

-- a word that is no pick ends it
pub added_wrong : (sessions : ℕ) (line rest : List ℕ) (old new next : List Pick) → Added sessions line rest old new → Adds false new next (picks_of sessions (with_word (take (prefix_len is_inside_word rest) rest) []))
    → Adds false old next (picks_of sessions (words line))
added_wrong sessions line rest old new next h e =
    let word : List ℕ = take (prefix_len is_inside_word rest) rest in
    let behind : List ℕ = drop (prefix_len is_inside_word rest + 1) rest in
    let step : picks_of sessions (words rest) ≡ None = ap (picks_of sessions) (words_first rest) ∙ no_picks (is_word word) sessions word (words behind) refl e in
    h.all ∙ ap (prefixed h.done) step
