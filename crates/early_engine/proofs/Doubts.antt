-- No name is both on the volume and in doubt, whatever the plain machine has come to.
use Rattle.std.proofs.Common.{◌≡◌, ℕ, ◌-◌, nat_le, Bool, true, false, ◌&&◌, ◌||◌, not, cond, List, [], ◌∷◌, ◌++◌, refl, ap, sym, ◌∙◌, inl, inr}
use Rattle.std.specs.Prelude.{Option, Some, None, ◌==◌}
use Rattle.std.specs.List.{list_any}
use Rattle.std.specs.Str.{bytes_eq}
use Rattle.std.proofs.lemmas.Bool.{cases_Bool}
use Rattle.std.proofs.lemmas.List.Folds.{list_any-append}
use Rattle.std.proofs.lemmas.Slice.Eq.{bytes_eq-Decides}
use Rattle.plain_model.specs.declared.stmt.Stmt.{Stmt}
use Rattle.plain_model.specs.declared.stmt.Stmt.TheVariants.{CreateTable, DropTable, Insert, Update, Delete, Commit, CreateSnap, DropDb}
use Rattle.plain_model.specs.declared.event.Event.{Event}
use Rattle.plain_model.specs.declared.event.Event.TheVariants.{Locked, CutAt, RestoreAt, Turned, Said, Left}
use Rattle.plain_model.specs.declared.reply.Message.{Message}
use Rattle.plain_model.specs.declared.reply.Reply.{Reply}
use Rattle.plain_model.specs.declared.reply.Reply.TheVariants.{Ok, Count, Rows, Msg}
use Rattle.plain_model.specs.declared.reply.TheConstants.Message.{FILE_FAILED, FILE_NOT_REMOVED, LOG_FAILED, NO_MEMORY}
use Rattle.plain_model.specs.Tables.{Change}
use Rattle.plain_model.specs.Journal.{Opening, Committed}
use Rattle.plain_model.specs.Next.{sparse_names}
use Rattle.plain_model.specs.State.{Plain, start, session, see, stmt_of, files_of}
use Rattle.plain_model.specs.Meaning.{change_and_reply}
use Rattle.plain_model.specs.Legal.{after, end_from, end, effect, unmade, with_doubt, with_changes, with_session, outside, after_commit, uncommitted, dropped, undropped, without_snap, without_made, without_names, new_names}

-- whether a list has the name
abbrev pub has : List ℕ → List (List ℕ) → Bool
has n names = list_any (bytes_eq n) names

-- the names without others
pub has_without : (n : List ℕ) (names xs : List (List ℕ)) → has n (without_names names xs) ≡ (not (has n names) && has n xs)
has_without n names [] = elim (not (has n names)) as (λ b. false ≡ (b && false)) [ true ↦ refl | false ↦ refl ]
has_without n names (x ∷ xs) =
    let ih = has_without n names xs in
    elim (cases_Bool (bytes_eq n x)) [
      | inl e ↦
          let same : n ≡ x = (bytes_eq-Decides n x).0 e in
          let here : has x names ≡ has n names = ap (λ y. has y names) (sym same) in
          elim (cases_Bool (has n names)) [
            | inl t ↦ (let u : has x names ≡ true = here ∙ t in rw u (ih ∙ (rw t refl)))
            | inr f ↦ (let u : has x names ≡ false = here ∙ f in rw (u, e, f) refl)
          ]
      | inr e ↦ elim (cases_Bool (has x names)) [
        | inl t ↦ rw (t, e) ih
        | inr f ↦ rw (f, e) ih
      ]
    ]

-- no name on the volume is in doubt
abbrev pub AreKnown : Plain → Type 0
AreKnown st = (n : List ℕ) → has n st.in_doubt ≡ true → has n st.on_volume ≡ false

changes_known : (st : Plain) (k : ℕ) (cs : List Change) → AreKnown st → AreKnown (with_changes st k cs)
changes_known st k cs h = elim ((session st k).depth == 0) as (λ b. AreKnown (cond b (record st { journal = Committed k cs ∷ st.journal }) (with_session st k (record (session st k) { work = (session st k).work ++ cs })))) [ true ↦ h | false ↦ h ]

commit_known : (st : Plain) (k : ℕ) → AreKnown st → AreKnown (after_commit st k)
commit_known st k h =
    let s = session st k in
    elim (nat_le 2 s.depth) as (λ b. AreKnown (cond b (with_session st k (record s { depth = s.depth - 1 })) (record (with_session st k (outside s)) { journal = Committed k s.work ∷ st.journal }))) [ true ↦ h | false ↦ h ]

uncommitted_known : (st : Plain) (k : ℕ) (m : Message) → AreKnown st → AreKnown (uncommitted st k m)
uncommitted_known st k m h = elim (m.number == NO_MEMORY || m.number == LOG_FAILED) as (λ b. AreKnown (cond b (with_session st k (outside (session st k))) st)) [ true ↦ h | false ↦ h ]

dropped_known : (st : Plain) (d : List ℕ) → AreKnown st → AreKnown (dropped st d)
dropped_known st d h n there =
    let out = h n there in
    has_without n (files_of st d) st.on_volume ∙ (rw out (elim (not (has n (files_of st d))) as (λ b. (b && false) ≡ false) [ true ↦ refl | false ↦ refl ]))

doubt_known : (st : Plain) (names : List (List ℕ)) → AreKnown st → AreKnown (with_doubt st names)
doubt_known st names h n there =
    has_without n names st.on_volume ∙ elim (cases_Bool (has n names)) [
      | inl t ↦ rw t refl
      | inr f ↦
          let old : has n st.in_doubt ≡ true = ap (λ b. b || has n st.in_doubt) (sym f) ∙ sym (list_any-append (bytes_eq n) names st.in_doubt) ∙ there in
          let out = h n old in rw (f, out) refl
    ]

made_known : (st : Plain) (made : Option (List ℕ)) → AreKnown st → AreKnown (without_made st made)
made_known st None h = h
made_known st (Some snap) h = h

unmade_known : (st : Plain) (k : ℕ) (names : List (List ℕ)) (m : Message) → AreKnown st → AreKnown (unmade st k names m)
unmade_known st k names m h = elim (m.number == FILE_FAILED) as (λ b. AreKnown (cond b (with_doubt (without_made st (session st k).making) names) st)) [
  | true ↦ doubt_known (without_made st (session st k).making) names (made_known st (session st k).making h)
  | false ↦ h
]

undropped_known : (st : Plain) (d : List ℕ) (m : Message) → AreKnown st → AreKnown (undropped st d m)
undropped_known st d m h = elim (m.number == FILE_NOT_REMOVED) as (λ b. AreKnown (cond b (with_doubt (without_snap st d) (files_of st d)) st)) [
  | true ↦ doubt_known (without_snap st d) (files_of st d) h
  | false ↦ h
]

effect_known : (st : Plain) (k : ℕ) (stmt : Option Stmt) (reply : Reply) → AreKnown st → AreKnown (effect st k stmt reply)
effect_known st k (Some (CreateSnap snap files of)) (Msg m) h = unmade_known st k (sparse_names files) m h
effect_known st k (Some Commit) (Msg m) h = uncommitted_known st k m h
effect_known st k (Some Commit) Ok h = commit_known st k h
effect_known st k (Some Commit) (Count n) h = commit_known st k h
effect_known st k (Some Commit) (Rows rs) h = commit_known st k h
effect_known st k (Some (DropDb d)) (Msg m) h = undropped_known st d m h
effect_known st k (Some (DropDb d)) Ok h = dropped_known st d h
effect_known st k (Some (DropDb d)) (Count n) h = dropped_known st d h
effect_known st k (Some (DropDb d)) (Rows rs) h = dropped_known st d h
effect_known st k (Some (DropTable name)) Ok h = changes_known st k (change_and_reply (DropTable name) (see st k)).0 h
effect_known st k (Some (DropTable name)) (Count n) h = changes_known st k (change_and_reply (DropTable name) (see st k)).0 h
effect_known st k (Some (DropTable name)) (Rows rs) h = changes_known st k (change_and_reply (DropTable name) (see st k)).0 h
effect_known st k (Some (CreateTable name cols)) Ok h = changes_known st k (change_and_reply (CreateTable name cols) (see st k)).0 h
effect_known st k (Some (CreateTable name cols)) (Count n) h = changes_known st k (change_and_reply (CreateTable name cols) (see st k)).0 h
effect_known st k (Some (CreateTable name cols)) (Rows rs) h = changes_known st k (change_and_reply (CreateTable name cols) (see st k)).0 h
effect_known st k (Some (Insert i)) Ok h = changes_known st k (change_and_reply (Insert i) (see st k)).0 h
effect_known st k (Some (Insert i)) (Count n) h = changes_known st k (change_and_reply (Insert i) (see st k)).0 h
effect_known st k (Some (Insert i)) (Rows rs) h = changes_known st k (change_and_reply (Insert i) (see st k)).0 h
effect_known st k (Some (Update u)) Ok h = changes_known st k (change_and_reply (Update u) (see st k)).0 h
effect_known st k (Some (Update u)) (Count n) h = changes_known st k (change_and_reply (Update u) (see st k)).0 h
effect_known st k (Some (Update u)) (Rows rs) h = changes_known st k (change_and_reply (Update u) (see st k)).0 h
effect_known st k (Some (Delete d)) Ok h = changes_known st k (change_and_reply (Delete d) (see st k)).0 h
effect_known st k (Some (Delete d)) (Count n) h = changes_known st k (change_and_reply (Delete d) (see st k)).0 h
effect_known st k (Some (Delete d)) (Rows rs) h = changes_known st k (change_and_reply (Delete d) (see st k)).0 h
effect_known st k stmt (Msg m) h = h
effect_known st k stmt Ok h = h
effect_known st k stmt (Count n) h = h
effect_known st k stmt (Rows rs) h = h

cut_known : (on doubts names : List (List ℕ)) → ((n : List ℕ) → has n doubts ≡ true → has n on ≡ false) → (n : List ℕ) → has n (without_names names doubts) ≡ true → has n (names ++ on) ≡ false
cut_known on doubts names h n there =
    let split : (not (has n names) && has n doubts) ≡ true = sym (has_without n names doubts) ∙ there in
    list_any-append (bytes_eq n) names on ∙ elim (cases_Bool (has n names)) [
      | inl t ↦ absurd (let x : false ≡ true = ap (λ b. not b && has n doubts) (sym t) ∙ split in cc)
      | inr f ↦ let old : has n doubts ≡ true = ap (λ b. not b && has n doubts) (sym f) ∙ split in let out = h n old in rw (f, out) refl
    ]

after_known : (st : Plain) (e : Event) → AreKnown st → AreKnown (after st e)
after_known st (Locked who table mode) h = h
after_known st (CutAt who snap) h = cut_known st.on_volume st.in_doubt (new_names (stmt_of st who.0)) h
after_known st (RestoreAt who snap) h = h
after_known st (Turned snap) h = h
after_known st (Said who number began reply) h = effect_known st who.0 (stmt_of st who.0) reply h
after_known st (Left who) h = h

from_known : (st : Plain) (es : List Event) → AreKnown st → AreKnown (end_from st es)
from_known st [] h = h
from_known st (e ∷ es) h = from_known (after st e) es (after_known st e h)

pub end_known : (opening : Opening) (scripts : List (List Stmt)) (es : List Event) → AreKnown (end opening scripts es)
end_known opening scripts es = from_known (start opening scripts) es (λ n there. absurd (let x : false ≡ true = there in cc))
