-- The picks of a script are of its sessions.
use Rattle.std.proofs.Common.{◌≡◌, ℕ, suc, zero, ◌+◌, ◌≤◌, ◌<◌, List, [], ◌∷◌, length, inl, inr, arith, sym, subst, get_or}
use Rattle.std.specs.Prelude.{All}
use Rattle.std.proofs.lemmas.Bool.{cases_Bool}
use Rattle.std.proofs.lemmas.List.Elements.{All-append}
use Rattle.plain_model.specs.declared.stmt.Stmt.{Stmt}
use Rattle.plain_model.specs.declared.pick.Pick.{Pick}
use Rattle.script_read.specs.Classes.{is_blank}
use Rattle.script_read.specs.Picks.{ArePicks, HasPicks, words}
use Rattle.script_read.specs.Script.{ArePickLines, IsSchedule, none, schedule, AreSessions, IsScript}

-- a pick of one of so many sessions, or the flusher's
abbrev Within : ℕ → Pick → Type 0
Within n pick = pick.who ≤ n

none_within : (n : ℕ) → All (Within n) []
none_within n = λ k d lt. absurd (omega (arith, lt))

one_more : (n : ℕ) (pick : Pick) (picks : List Pick) → pick.who ≤ n → All (Within n) picks → All (Within n) (pick ∷ picks)
one_more n pick picks h hs = λ k. go k
  where
    go : (k : ℕ) (d : Pick) → k < length (pick ∷ picks) → Within n (get_or (pick ∷ picks) k d)
    go zero d lt = h
    go (suc k) d lt = hs k d (omega (arith, lt))

words_within : (n : ℕ) (ws : List (List ℕ)) (picks : List Pick) → ArePicks n ws picks → All (Within n) picks
words_within n [] [] h = none_within n
words_within n (w ∷ ws) (pick ∷ picks) h = one_more n pick picks h.0.there (words_within n ws picks h.1)
words_within n [] (pick ∷ picks) h = absurd h
words_within n (w ∷ ws) [] h = absurd h

line_within : (n : ℕ) (line : List ℕ) (picks : List Pick) → HasPicks n line picks → All (Within n) picks
line_within n line picks h = elim (cases_Bool (is_blank line)) [
  | inl blank ↦ subst (All (Within n)) (sym (h.0 blank)) (none_within n)
  | inr other ↦ words_within n (words line) picks (h.1 other)
]

lines_within : (n : ℕ) (lines : List (List ℕ)) (picks : List Pick) → ArePickLines n lines picks → All (Within n) picks
lines_within n [] picks h = subst (All (Within n)) (sym h) (none_within n)
lines_within n (line ∷ lines) picks (first, rest, split, is, others) =
    subst (All (Within n)) (sym split) (All-append (Within n) first rest (line_within n line first is) (lines_within n lines rest others))

schedule_within : (n : ℕ) (lines : List (List ℕ)) (picks : List Pick) → IsSchedule n lines picks → All (Within n) picks
schedule_within n lines picks none = none_within n
schedule_within n lines picks (schedule more others some h) = lines_within n more others h

sessions_within : (n : ℕ) (lines : List (List ℕ)) (scripts : List (List Stmt)) (picks : List Pick) → AreSessions n lines scripts picks → All (Within (n + length scripts)) picks
sessions_within n lines [] picks h = let e : n ≡ n + 0 = omega arith in subst (λ (m : ℕ). All (Within m) picks) e (schedule_within n lines picks h)
sessions_within n lines (stmts ∷ scripts) picks (heading, body, rest, split, session, says, others) =
    let e : n + 1 + length scripts ≡ n + length (stmts ∷ scripts) = omega arith in
    subst (λ (m : ℕ). All (Within m) picks) e (sessions_within (n + 1) rest scripts picks others)

-- each pick is of a session of the script, or the flusher's
pub players : (bytes : List ℕ) (scripts : List (List Stmt)) (picks : List Pick) → IsScript bytes scripts picks → All (λ (pick : Pick). pick.who ≤ length scripts) picks
players bytes scripts picks h = let e : 0 + length scripts ≡ length scripts = omega arith in subst (λ (m : ℕ). All (Within m) picks) e (sessions_within 0 h.rest scripts picks h.sessions)
