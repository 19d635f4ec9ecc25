-- What a batch among lines says, and what its refusal is.
use Rattle.std.proofs.Common.{◌≡◌, ℕ, suc, zero, ◌+◌, ◌-◌, ◌<◌, ◌≤◌, Bool, true, false, cond, List, [], ◌∷◌, ◌++◌, length, arith, ap, sym, ◌∙◌, refl, inl, inr, ◌⊎◌, subst, add-zero, Option}
use Rattle.std.specs.Prelude.{Some, None, ◌&&◌, nat_le, map}
use Rattle.std.specs.List.{list_all}
use Rattle.std.proofs.lemmas.Bool.{leb-true, leb-false}
use Rattle.std.proofs.lemmas.List.Folds.{list_all-append}
use Rattle.plain_model.specs.declared.stmt.Stmt.{Stmt}
use Rattle.plain_model.specs.declared.stmt.Stmt.TheVariants.{Broken}
use Rattle.sql_lex.specs.declared.token.TokenKind.TheVariants.{End}
use Rattle.sql_lex.specs.Tokens.{token, end}
use Rattle.sql_lex.proofs.Cutting.{one_cutting}
use Rattle.sql_read.specs.Bare.{bare}
use Rattle.std.proofs.lemmas.List.{length-map}
use Rattle.sql_read.proofs.BareLemmas.{one_reading}
use Rattle.sql_read.proofs.BatchLemmas.{one_place}
use Rattle.sql_read.proofs.PlaceLemmas.{one_stmt_place}
use Rattle.sql_read.proofs.EachLemmas.{each_place, first_place}
use Rattle.sql_read.specs.StmtPlace.{IsStmtPlace}
use Rattle.script_read.specs.declared.refusal.Why.{Why}
use Rattle.script_read.specs.declared.refusal.Why.TheVariants as why
use Rattle.script_read.specs.declared.refusal.ScriptRefusal.{ScriptRefusal}
use Rattle.script_read.specs.declared.refusal.ScriptRefusal.TheVariants.{Refused}
use Rattle.script_read.specs.Lines.{joined, is_whole}
use Rattle.script_read.specs.Classes.{is_text, begins_with_colon, is_go, ends_batch}
use Rattle.script_read.specs.Taking.{is_inner, first_is_inner, noted, first_bad, TakesBatch}
use Rattle.script_read.specs.Faults.{Place, InFront, Within, Scheduled, place_behind, fault_of, Fault, fault, or_later, first_fault}
use Rattle.script_read.specs.Limit.{Batch, batch_at, grown, batches, SaysText, Says, Begins, IsPast, ends_before}
use Rattle.script_read.specs.Refusal.{by_form, by_count, Refuses}
use Rattle.script_read.specs.Steps.{PastIn, refusal_by, ReadsBatch, later}
use Rattle.script_read.proofs.BoolLemmas.{both_hold, neither, not_false}
use Rattle.script_read.proofs.LineLemmas.{ends_few}

-- a bad line among others, or what comes later
abbrev pub or_bad : Option ℕ → Option Fault → Option Fault
or_bad None later = later
or_bad (Some bad) later = Some (fault bad why.Byte)

bad_known : (bad number : ℕ) (lines : List (List ℕ)) → first_bad (Some bad) number lines ≡ Some bad
bad_known bad number [] = refl
bad_known bad number (line ∷ lines) = bad_known bad (number + 1) lines

form_on : (v : Bool) (n number : ℕ) (line : List ℕ) (lines new : List (List ℕ)) → is_text line ≡ v → begins_with_colon line ≡ false
    → first_fault (Within n) (number + 1) (lines ++ new) ≡ or_bad (first_bad None (number + 1) lines) (first_fault (Within n) (number + 1 + length lines) new)
    → first_fault (Within n) number (line ∷ lines ++ new) ≡ or_bad (first_bad None number (line ∷ lines)) (first_fault (Within n) (number + suc (length lines)) new)
form_on true n number line lines new e plain h = let same : number + suc (length lines) ≡ number + 1 + length lines = omega arith in rw (e, plain, same) h
form_on false n number line lines new e plain h = rw (e, bad_known number (number + 1) lines) refl

-- of the lines of a batch the first bad one can't stand
pub batch_form : (n number : ℕ) (lines new : List (List ℕ)) → list_all is_inner lines ≡ true
    → first_fault (Within n) number (lines ++ new) ≡ or_bad (first_bad None number lines) (first_fault (Within n) (number + length lines) new)
batch_form n number [] new h = rw add-zero refl
batch_form n number (line ∷ lines) new h =
    let parts = both_hold (is_inner line) (list_all is_inner lines) h in
    form_on (is_text line) n number line lines new refl (neither (begins_with_colon line) (is_go line) parts.0).0 (batch_form n (number + 1) lines new parts.1)

-- the lines of a batch are one
pub batches_split : (n number : ℕ) (lines new : List (List ℕ)) → list_all is_inner lines ≡ true → first_is_inner new ≡ false
    → batches (Within n) number (lines ++ new) ≡ batch_at number lines ∷ later (Within n) (number + length lines) new
batches_split n number [] [] h i = refl
batches_split n number [] (line ∷ lines) h i = let ends : ends_batch line ≡ true = not_false (ends_batch line) i in rw (ends, add-zero) refl
batches_split n number (line ∷ lines) new h i =
    let parts = both_hold (is_inner line) (list_all is_inner lines) h in
    let plain = neither (begins_with_colon line) (is_go line) parts.0 in
    let same : number + suc (length lines) ≡ number + 1 + length lines = omega arith in
    rw (plain.0, plain.1, batches_split n (number + 1) lines new parts.1 i, same) refl

-- batches that begin on this line or later
abbrev pub From : ℕ → List Batch → Type 0
From number [] = Unit {0}
From number (batch ∷ rest) = (number ≤ batch.line) × From number rest

from_less : (a b : ℕ) (bs : List Batch) → a ≤ b → From b bs → From a bs
from_less a b [] h i = tt
from_less a b (batch ∷ rest) h i = (omega (arith, h, i.0), from_less a b rest h i.1)

grown_from : (number : ℕ) (line : List ℕ) (bs : List Batch) → From (number + 1) bs → From number (grown number line bs)
grown_from number line [] h = (omega arith, tt)
grown_from number line (batch ∷ rest) h = (omega arith, from_less number (number + 1) rest (omega arith) h.1)

either_from : (v : Bool) (number : ℕ) (line : List ℕ) (bs cs : List Batch) → From (number + 1) bs → From (number + 1) cs → From number (cond v (batch_at number [] ∷ bs) (grown number line cs))
either_from true number line bs cs h i = (omega arith, from_less number (number + 1) bs (omega arith) h)
either_from false number line bs cs h i = grown_from number line cs i

-- lines have batches that begin on them
pub batches_from : (place : Place) (number : ℕ) (lines : List (List ℕ)) → From number (batches place number lines)
batches_from (Scheduled n picks) number lines = tt
batches_from InFront number [] = tt
batches_from InFront number (line ∷ lines) = from_less number (number + 1) _ (omega arith) (batches_from (place_behind InFront line) (number + 1) lines)
batches_from (Within n) number [] = (omega arith, tt)
batches_from (Within n) number (line ∷ lines) =
    either_from (ends_batch line) number line _ _ (batches_from (place_behind (Within n) line) (number + 1) lines) (batches_from (Within n) (number + 1) lines)

-- so have those behind a batch
pub later_from : (place : Place) (number : ℕ) (lines : List (List ℕ)) → From number (later place number lines)
later_from place number [] = tt
later_from place number (line ∷ lines) = from_less number (number + 1) _ (omega arith) (batches_from (place_behind place line) (number + 1) lines)

-- the statement past the limit begins no earlier than its batch
pub past_from : (said number line : ℕ) (bs : List Batch) → From number bs → IsPast said bs line → number ≤ line
past_from said number line [] h p = absurd p
past_from said number line (batch ∷ rest) h (stmts, says, inl q) = past_from (said + length stmts) number line rest h.1 q.1
past_from said number line (batch ∷ rest) h (stmts, says, inr q) = omega (arith, h.0, q.1.line_is)

-- a text says one list of statements, wherever the parts of their expressions lie in memory
pub says_same : (text : List ℕ) (s u : List Stmt) → SaysText text s → SaysText text u → map bare s ≡ map bare u
says_same text s u (inl h) (inl i) = one_reading text s u h i
says_same text s u (inl h) (inr (at, i, e)) = absurd (i.none s h)
says_same text s u (inr (at, h, e)) (inl i) = absurd (h.none u i)
says_same text s u (inr (at, h, e)) (inr (b, i, f)) = ap (map bare) (e ∙ ap (λ n. Broken n ∷ []) (one_place text at b h i) ∙ sym f)

-- so it says so many
pub says_as_many : (text : List ℕ) (s u : List Stmt) → SaysText text s → SaysText text u → length s ≡ length u
says_as_many text s u h i = sym (length-map s bare) ∙ ap length (says_same text s u h i) ∙ length-map u bare

-- a statement begins on one line
pub begins_one : (text : List ℕ) (first n a b : ℕ) → Begins text first n a → Begins text first n b → a ≡ b
begins_one text first n a b h i = h.line_is ∙ ap (λ at. first + ends_before at text) (one_stmt_place text n h.at i.at h.place i.place) ∙ sym i.line_is

none_left : (stmts : List Stmt) → map bare stmts ≡ [] → stmts ≡ []
none_left [] h = refl
none_left (s ∷ ss) h = cc

-- no lines say nothing
pub says_nothing : (stmts : List Stmt) → Says [] stmts → stmts ≡ []
says_nothing stmts h =
    none_left stmts (says_same [] stmts [] h (inl (record {
      tokens = token 0 End ∷ [];
      lexes = end 0;
      value = [];
      is = record { front = []; last = token 0 End; others = []; split = refl; ends = refl; is = refl };
      says = tt;
    })))

-- a batch that says so many statements that they pass the limit has lines, so that the statement past it begins on one of them
past_within : (said line number : ℕ) (lines : List (List ℕ)) (stmts : List Stmt) → list_all is_whole lines ≡ true → Says lines stmts → said ≤ 20000 → 20000 < said + length stmts
    → Begins (joined lines) number (20000 - said) line → line < number + length lines
past_within said line number [] stmts whole says few over begins = absurd (omega (arith, few, over, ap length (says_nothing stmts says)))
past_within said line number (first ∷ lines) stmts whole says few over begins = omega (arith, begins.line_is, ends_few begins.at first lines whole)

bad_within : (v : Bool) (bad number : ℕ) (line : List ℕ) (lines : List (List ℕ)) → is_text line ≡ v → first_bad (noted None number line) (number + 1) lines ≡ Some bad
    → (first_bad None (number + 1) lines ≡ Some bad → bad < number + 1 + length lines) → bad < number + suc (length lines)
bad_within true bad number line lines e h next = omega (arith, next (rw e at h))
bad_within false bad number line lines e h next = let same : Some number ≡ Some bad = sym (bad_known number (number + 1) lines) ∙ (rw e at h) in let here : number ≡ bad = cc in omega (arith, here)

-- a bad line is one of the lines
pub bad_there : (bad number : ℕ) (lines : List (List ℕ)) → first_bad None number lines ≡ Some bad → bad < number + length lines
bad_there bad number [] h = cc
bad_there bad number (line ∷ lines) h = bad_within (is_text line) bad number line lines refl h (bad_there bad (number + 1) lines)

or_later_from : (number line : ℕ) (f : Fault) (o : Option Why) (rest : Option Fault) → or_later number o rest ≡ Some f → (rest ≡ Some f → number + 1 ≤ f.line) → number ≤ f.line
or_later_from number line f None rest e next = omega (arith, next e)
or_later_from number line f (Some w) rest e next = let same : fault number w ≡ f = cc in omega (arith, ap (λ (g : Fault). g.line) same)

-- the first fault is on one of the lines
pub fault_from : (place : Place) (number : ℕ) (lines : List (List ℕ)) (f : Fault) → first_fault place number lines ≡ Some f → number ≤ f.line
fault_from place number [] f e = cc
fault_from place number (line ∷ lines) f e = or_later_from number number f (fault_of place line) (first_fault (place_behind place line) (number + 1) lines) e (fault_from (place_behind place line) (number + 1) lines f)

-- a batch whose statements stay within the limit passes none, and one that passes it does so where its statement begins
pub record Facts (said number next : ℕ) (lines new : List (List ℕ)) (stmts : List Stmt) : Type 0 where
  pub inner : list_all is_inner lines ≡ true
  pub stops : first_is_inner new ≡ false
  pub says : Says lines stmts
  pub next_is : next ≡ number + length lines

-- the batches of these lines
abbrev pub Pasts : ℕ → ℕ → ℕ → List (List ℕ) → ℕ → Type 0
Pasts said n number old line = IsPast said (batches (Within n) number old) line

-- what passes the limit at a batch, or behind it
abbrev pub PastHere : ℕ → ℕ → List (List ℕ) → List Stmt → List Batch → ℕ → Type 0
PastHere said number lines stmts rest m =
    ((said + length stmts ≤ 20000) × IsPast (said + length stmts) rest m) ⊎ ((20000 < said + length stmts) × Begins (joined lines) number (20000 - said) m)

past_here : (said number m : ℕ) (lines : List (List ℕ)) (stmts : List Stmt) (rest : List Batch) → Says lines stmts → IsPast said (batch_at number lines ∷ rest) m → PastHere said number lines stmts rest m
past_here said number m lines stmts rest says (others, says2, p) =
    let same : length others ≡ length stmts = says_as_many (joined lines) others stmts says2 says in
    subst (λ (k : ℕ). ((said + k ≤ 20000) × IsPast (said + k) rest m) ⊎ ((20000 < said + k) × Begins (joined lines) number (20000 - said) m)) same p

-- the batch in front of other lines
pub past_split : (n said number next m : ℕ) (lines new : List (List ℕ)) (stmts : List Stmt) → Facts said number next lines new stmts → Pasts said n number (lines ++ new) m
    → PastHere said number lines stmts (later (Within n) next new) m
past_split n said number next m lines new stmts h p =
    let bs : List Batch = later (Within n) next new in
    let split : batches (Within n) number (lines ++ new) ≡ batch_at number lines ∷ bs = batches_split n number lines new h.inner h.stops ∙ ap (λ k. batch_at number lines ∷ later (Within n) k new) (sym h.next_is) in
    past_here said number m lines stmts bs h.says (subst (λ (cs : List Batch). IsPast said cs m) split p)

-- and back
pub past_join : (n said number next m : ℕ) (lines new : List (List ℕ)) (stmts : List Stmt) → Facts said number next lines new stmts → PastHere said number lines stmts (later (Within n) next new) m
    → Pasts said n number (lines ++ new) m
past_join n said number next m lines new stmts h p =
    let bs : List Batch = later (Within n) next new in
    let split : batches (Within n) number (lines ++ new) ≡ batch_at number lines ∷ bs = batches_split n number lines new h.inner h.stops ∙ ap (λ k. batch_at number lines ∷ later (Within n) k new) (sym h.next_is) in
    subst (λ (cs : List Batch). IsPast said cs m) (sym split) (stmts, h.says, p)

-- no statement past the limit begins before a bad line where the batch has none
bad_first : (n said number next bad m : ℕ) (lines new : List (List ℕ)) (stmts : List Stmt) → Facts said number next lines new stmts → bad < next → said + length stmts ≤ 20000
    → Pasts said n number (lines ++ new) m → bad ≤ m
bad_first n said number next bad m lines new stmts h before fits p = elim (past_split n said number next m lines new stmts h p) [
  | inl q ↦ omega (arith, before, past_from (said + length stmts) next m _ (later_from (Within n) next new) q.1)
  | inr q ↦ absurd (omega (arith, fits, q.0))
]

-- the statement past the limit begins on one line, where the batch has it
past_at : (n said number next line m : ℕ) (lines new : List (List ℕ)) (stmts : List Stmt) → Facts said number next lines new stmts → 20000 < said + length stmts
    → Begins (joined lines) number (20000 - said) line → Pasts said n number (lines ++ new) m → line ≡ m
past_at n said number next line m lines new stmts h over begins p = elim (past_split n said number next m lines new stmts h p) [
  | inl q ↦ absurd (omega (arith, over, q.0))
  | inr q ↦ begins_one (joined lines) number (20000 - said) line m begins q.1
]

abbrev pub RefusesBatch : ℕ → ℕ → ℕ → List (List ℕ) → ScriptRefusal → Type 0
RefusesBatch n said number old refusal = Refuses (Within n) said number old refusal

-- the line of a fault
abbrev line_of : Option Fault → ℕ → ℕ
line_of None other = other
line_of (Some f) other = f.line

both_refused : (v : Bool) (n said number next bad past : ℕ) (lines new : List (List ℕ)) (stmts : List Stmt) (refusal : ScriptRefusal) → Facts said number next lines new stmts
    → 20000 < said + length stmts → Begins (joined lines) number (20000 - said) past → first_fault (Within n) number (lines ++ new) ≡ Some (fault bad why.Byte)
    → nat_le bad past ≡ v → cond (nat_le bad past) (Some (Refused bad why.Byte)) (Some (Refused past why.Many)) ≡ Some refusal → RefusesBatch n said number (lines ++ new) refusal
both_refused true n said number next bad past lines new stmts refusal h over begins form e r =
    let same : Refused bad why.Byte ≡ refusal = cc (rw e at r) in
    subst (λ (x : ScriptRefusal). Refuses (Within n) said number (lines ++ new) x) same
    (by_form bad why.Byte form (λ m q. let at : past ≡ m = past_at n said number next past m lines new stmts h over begins q in omega (arith, at, leb-true bad past e)))
both_refused false n said number next bad past lines new stmts refusal h over begins form e r =
    let same : Refused past why.Many ≡ refusal = cc (rw e at r) in
    subst (λ (x : ScriptRefusal). Refuses (Within n) said number (lines ++ new) x) same
    (by_count past (past_join n said number next past lines new stmts h (inr (over, begins))) (λ m q. let at : past ≡ m = past_at n said number next past m lines new stmts h over begins q in omega (arith, at))
    (λ f g. let line : bad ≡ f.line = ap (λ (o : Option Fault). line_of o bad) (sym form ∙ g) in omega (arith, line, leb-false bad past e)))

-- the refusal of a batch is the first of its lines
pub batch_refused : (n said number next : ℕ) (lines new : List (List ℕ)) (stmts : List Stmt) (bad past : Option ℕ) (refusal : ScriptRefusal) → Facts said number next lines new stmts
    → list_all is_whole lines ≡ true → said ≤ 20000 → bad ≡ first_bad None number lines → PastIn past (joined lines) number said (length stmts) → refusal_by bad past ≡ Some refusal → RefusesBatch n said number (lines ++ new) refusal
batch_refused n said number next lines new stmts None None refusal h whole few e p r = cc
batch_refused n said number next lines new stmts None (Some past) refusal h whole few e p r =
    let same : Refused past why.Many ≡ refusal = cc in
    let form : first_fault (Within n) number (lines ++ new) ≡ first_fault (Within n) (number + length lines) new = batch_form n number lines new h.inner ∙ ap (λ (o : Option ℕ). or_bad o (first_fault (Within n) (number + length lines) new)) (sym e) in
    let within : past < number + length lines = past_within said past number lines stmts whole h.says few p.0 p.1 in
    subst (λ (x : ScriptRefusal). Refuses (Within n) said number (lines ++ new) x) same
    (by_count past (past_join n said number next past lines new stmts h (inr p)) (λ m q. let at : past ≡ m = past_at n said number next past m lines new stmts h p.0 p.1 q in omega (arith, at))
    (λ f g. omega (arith, within, fault_from (Within n) (number + length lines) new f (sym form ∙ g))))
batch_refused n said number next lines new stmts (Some bad) None refusal h whole few e p r =
    let same : Refused bad why.Byte ≡ refusal = cc in
    let form : first_fault (Within n) number (lines ++ new) ≡ Some (fault bad why.Byte) = batch_form n number lines new h.inner ∙ ap (λ (o : Option ℕ). or_bad o (first_fault (Within n) (number + length lines) new)) (sym e) in
    let before : bad < next = omega (arith, bad_there bad number lines (sym e), h.next_is) in
    subst (λ (x : ScriptRefusal). Refuses (Within n) said number (lines ++ new) x) same
    (by_form bad why.Byte form (λ m q. bad_first n said number next bad m lines new stmts h before p q))
batch_refused n said number next lines new stmts (Some bad) (Some past) refusal h whole few e p r =
    let form : first_fault (Within n) number (lines ++ new) ≡ Some (fault bad why.Byte) = batch_form n number lines new h.inner ∙ ap (λ (o : Option ℕ). or_bad o (first_fault (Within n) (number + length lines) new)) (sym e) in
    both_refused (nat_le bad past) n said number next bad past lines new stmts refusal h p.0 p.1 form refl r

-- what is known of a batch that was taken
taken_facts : (bytes : List ℕ) (line : ℕ) (bad : Option ℕ) (said number next : ℕ) (old new : List (List ℕ)) (stmts : List Stmt) (h : TakesBatch bytes line bad number old next new)
    → SaysText bytes stmts → Facts said number next h.lines new stmts
taken_facts bytes line bad said number next old new stmts h says = record { inner = h.inner; stops = h.stops; says = subst (λ (text : List ℕ). SaysText text stmts) h.bytes_are says; next_is = h.next_is }

taken_whole : (lines old new : List (List ℕ)) → old ≡ lines ++ new → list_all is_whole old ≡ true → list_all is_whole lines ≡ true
taken_whole lines old new split whole =
    let parts : (list_all is_whole lines && list_all is_whole new) ≡ true = sym (list_all-append is_whole lines new) ∙ ap (list_all is_whole) (sym split) ∙ whole in
    (both_hold (list_all is_whole lines) (list_all is_whole new) parts).0

past_of : (bytes text : List ℕ) (line number said count most : ℕ) (past : Option ℕ) → bytes ≡ text → line ≡ number → count ≡ most → PastIn past bytes line said count → PastIn past text number said most
past_of bytes text line number said count most past e f g h = rw (← e, ← f, ← g) h

-- the refusal of a batch that was taken is the first of the lines
pub taken_refused : (n : ℕ) (bytes : List ℕ) (line : ℕ) (bad past : Option ℕ) (said number next count : ℕ) (old new : List (List ℕ)) (stmts : List Stmt) (refusal : ScriptRefusal)
    → TakesBatch bytes line bad number old next new → list_all is_whole old ≡ true → said ≤ 20000 → SaysText bytes stmts → count ≡ length stmts → PastIn past bytes line said count
    → refusal_by bad past ≡ Some refusal → Refuses (Within n) said number old refusal
taken_refused n bytes line bad past said number next count old new stmts refusal h whole few says e p r =
    let facts : Facts said number next h.lines new stmts = taken_facts bytes line bad said number next old new stmts h says in
    subst (λ (lines : List (List ℕ)). Refuses (Within n) said number lines refusal) (sym h.split)
    (batch_refused n said number next h.lines new stmts bad past refusal facts (taken_whole h.lines old new h.split whole) few h.bad_is (past_of bytes (joined h.lines) line number said count (length stmts) past h.bytes_are h.line_is e p) r)

no_refusal_by : (v : Bool) (a b : Option ScriptRefusal) (x y : ScriptRefusal) → a ≡ Some x → b ≡ Some y → cond v a b ≡ None → ⊥
no_refusal_by true a b x y e f h = cc
no_refusal_by false a b x y e f h = cc

no_refusal : (bad past : Option ℕ) → refusal_by bad past ≡ None → (bad ≡ None) × (past ≡ None)
no_refusal None None h = (refl, refl)
no_refusal None (Some past) h = cc
no_refusal (Some bad) None h = cc
no_refusal (Some bad) (Some past) h = absurd (no_refusal_by (nat_le bad past) _ _ (Refused bad why.Byte) (Refused past why.Many) refl refl h)

-- a batch that was taken and is not refused was read
pub taken_read : (bytes : List ℕ) (line : ℕ) (bad past : Option ℕ) (said number next count : ℕ) (old new : List (List ℕ)) (stmts : List Stmt)
    → TakesBatch bytes line bad number old next new → SaysText bytes stmts → count ≡ length stmts → PastIn past bytes line said count
    → refusal_by bad past ≡ None → ReadsBatch said stmts number old next new
taken_read bytes line bad past said number next count old new stmts h says e p r =
    let none = no_refusal bad past r in
    let fits : PastIn None bytes line said count = subst (λ (o : Option ℕ). PastIn o bytes line said count) none.1 p in
    record {
      lines = h.lines;
      split = h.split;
      inner = h.inner;
      stops = h.stops;
      says = subst (λ (text : List ℕ). SaysText text stmts) h.bytes_are says;
      text = sym h.bad_is ∙ none.0;
      few = omega (arith, e, fits);
      next_is = h.next_is;
    }

-- each statement that the text of a batch says has a place
pub text_place : (bytes : List ℕ) (stmts : List Stmt) (n : ℕ) → SaysText bytes stmts → n < length stmts → (at : ℕ) × IsStmtPlace bytes n at
text_place bytes stmts n (inl b) lt = each_place bytes stmts n b lt
text_place bytes stmts zero (inr r) lt = first_place bytes r.0 r.1
text_place bytes stmts (suc n) (inr r) lt = absurd (let e = ap (λ (ss : List Stmt). length ss) r.2 in omega (arith, e, lt))
