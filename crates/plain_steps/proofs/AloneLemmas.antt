-- Statements on the source's tables are answered by what their session sees, and at SERIALIZABLE as if alone.
use Rattle.std.proofs.Common.{◌≡◌, ◌-◌, ◌≤◌, ◌⊎◌, inl, inr, ℕ, true, false, List, ◌∷◌, ◌++◌, refl, ap, sym, ◌∙◌, subst, arith}
use Rattle.std.specs.Prelude.{Option, Some}
use Rattle.std.specs.FinMap as finite
use Rattle.std.specs.List.{list_any}
use Rattle.page_base.specs.declared.numbers.Mode.TheVariants.{S}
use Rattle.plain_model.specs.declared.stmt.Level.{Level}
use Rattle.plain_model.specs.declared.stmt.Level.TheVariants as levels
use Rattle.plain_model.specs.declared.stmt.Stmt.{Stmt}
use Rattle.plain_model.specs.declared.event.Event.{Event}
use Rattle.plain_model.specs.declared.event.Event.TheVariants.{Said}
use Rattle.plain_model.specs.declared.event.LockName.{LockName}
use Rattle.plain_model.specs.declared.event.LockName.TheVariants.{All, Table}
use Rattle.plain_model.specs.declared.reply.Message.{Message}
use Rattle.plain_model.specs.declared.reply.Reply.TheVariants.{Msg}
use Rattle.plain_model.specs.Tables.{Tables, Change, apply}
use Rattle.plain_model.specs.Journal.{Opening}
use Rattle.plain_model.specs.Meaning.{shape, change_and_reply}
use Rattle.plain_model.specs.Statements.{table_named}
use Rattle.plain_model.specs.State.{Session, session, stmt_of, start, committed, see}
use Rattle.plain_model.specs.Holding.{holds, same_lock}
use Rattle.plain_model.specs.Keeping.{kept_at}
use Rattle.plain_model.specs.Next.{Replies, next_of}
use Rattle.plain_model.specs.Free.{IsFree}
use Rattle.plain_model.specs.Legal.{Legal, LegalFrom, MayCome, end_from}
use Rattle.plain_model.specs.Alone.{Told, IsOfSource, IsCommitted, IsAloneOutside, IsAloneInside, IsSeen, AreAlone, AreSeen, asked, replied, answer, or_reply}
use Rattle.plain_steps.proofs.SplitLemmas.{legal_before, legal_behind}
use Rattle.plain_steps.proofs.LockLemmas.{Locks}
use Rattle.plain_steps.proofs.ApplyLemmas.{cols_at, get_apply, cols_apply, answer_reads, shape_reads}
use Rattle.plain_steps.proofs.ComingLemmas.{Backed, ByShape, ByData, Over, Reads, backed, answered_by, of_built, quiet_reply, free_loud}
use Rattle.plain_steps.proofs.EventLemmas.{ReplyStep, said_step}
use Rattle.plain_steps.proofs.SaneLemmas.{Sane, sane_end, sane_after}
use Rattle.plain_steps.proofs.SteadyLemmas.{Tracked, Remains, Steady, Amid, steady, amid, stays_first}

module _ (opening : Opening) (scripts : List (List Stmt)) (book : List Event) (k n : ℕ) (legal : Legal opening scripts book) (t : Told opening scripts book k n) (about : IsOfSource (asked t) k t.stmt t.reply) where
  whole : LegalFrom (start opening scripts) (t.before ++ Said t.who n t.began t.reply ∷ t.later)
  whole = subst (λ (es : List Event). LegalFrom (start opening scripts) es) t.is legal

  sane : Sane (asked t)
  sane = sane_end opening scripts t.before (legal_before (start opening scripts) t.before (Said t.who n t.began t.reply ∷ t.later) whole)

  behind : MayCome (asked t) (Said t.who n t.began t.reply) × LegalFrom (replied t) t.later
  behind = legal_behind (start opening scripts) t.before (Said t.who n t.began t.reply ∷ t.later) whole

  comes : (next_of (asked t) k (Some t.stmt) ≡ Replies t.reply) ⊎ IsFree (asked t) k (Some t.stmt) t.reply
  comes =
      subst (λ (o : Option Stmt). (next_of (asked t) k o ≡ Replies t.reply) ⊎ IsFree (asked t) k o t.reply) t.says
      (subst (λ m. (next_of (asked t) m (stmt_of (asked t) m) ≡ Replies t.reply) ⊎ IsFree (asked t) m (stmt_of (asked t) m) t.reply) t.by behind.0.3)

  over : Backed (Over (asked t) k t.stmt) (asked t) k t.stmt t.reply
  over =
      let q = quiet_reply t.reply about.tells in
      elim comes [
        | inl e ↦ backed (asked t) k t.stmt t.reply about.about about.here q (of_built (asked t) k t.stmt (Replies t.reply) q e)
        | inr f ↦ absurd (free_loud (asked t) k (Some t.stmt) t.reply f q)
      ]

  -- the reply is what the statement answers over what its session sees
  pub seen : IsSeen t
  seen = answered_by (Over (asked t) k t.stmt) (asked t) k t.stmt t.reply over

  -- outside a transaction that is what is committed
  pub outside : IsAloneOutside t
  outside zero = seen ∙ ap (λ (w : List Change). answer t.stmt (apply w (committed (asked t)))) (sane.idle (k - 1) zero)

  module _ (serial : (session (asked t) k).level ≡ levels.Serial) (c : IsCommitted (replied t) k t.later) where
    x : ReplyStep (asked t) (replied t) k
    x = said_step (asked t) k n t.began t.who t.reply behind.0 t.by

    later : 1 ≤ (session (replied t) k).depth
    later = stays_first (replied t) k c.amid c.within

    later_here : 1 ≤ x.step.s.depth
    later_here = subst (λ (u : Session). 1 ≤ u.depth) x.step.here later

    stays : (x.step.s.depth ≡ (session (asked t) k).depth) × (x.step.s.level ≡ (session (asked t) k).level)
    stays = elim x.step.level [
      | inl p ↦ p
      | inr off ↦ absurd (let y : true ≡ false = sym about.about ∙ off t.stmt t.says in cc)
    ]

    before : 1 ≤ (session (asked t) k).depth
    before = subst (λ d. 1 ≤ d) stays.0 later_here

    remains : Remains (asked t) (replied t) k (k - 1)
    remains same = (before, later)

    -- at SERIALIZABLE a reply frees nothing
    locks_stay : x.step.s.locks ≡ (session (asked t) k).locks
    locks_stay = elim x.replied.kept [
      | inl q ↦ q.1 ∙ ap (λ (l : Level). kept_at l (session (asked t) k).gained (session (asked t) k).locks) (q.2 ∙ stays.1 ∙ serial)
      | inr q ↦ absurd (let a = later_here in let b = q.1 in omega (arith, a, b))
    ]

    follow : (name : LockName) → holds (session (asked t) k).locks name S ≡ true → Tracked (replied t) (k - 1) name
    follow name h = record {
      held = subst (λ (u : Session). holds u.locks name S ≡ true) (sym x.step.here) (subst (λ (l : Locks). holds l name S ≡ true) (sym locks_stay) h);
      old = subst (λ (u : Session). list_any (same_lock name) u.gained ≡ false) (sym x.step.here) (subst (λ (l : List LockName). list_any (same_lock name) l ≡ false) (sym x.replied.gained) refl);
    }

    legal_amid : LegalFrom (replied t) c.amid
    legal_amid = legal_before (replied t) c.amid (c.commit ∷ c.rest) (subst (λ (es : List Event). LegalFrom (replied t) es) c.is behind.1)

    module _ (all : holds (session (asked t) k).locks All S ≡ true) where
      one : Steady (asked t) (replied t) (k - 1)
      one = steady (asked t) (replied t) k x.step sane (k - 1) remains all

      rest : Amid (replied t) (end_from (replied t) c.amid) (k - 1)
      rest = amid (replied t) k c.amid (sane_after (asked t) (Said t.who n t.began t.reply) sane behind.0) legal_amid c.within (follow All all)

      cols_again : (q : List ℕ) → cols_at (committed (end_from (replied t) c.amid)) q ≡ cols_at (committed (asked t)) q
      cols_again q = rest.cols q ∙ one.cols q

      rows_again : (q : List ℕ) → holds (session (asked t) k).locks (Table q) S ≡ true → finite.get (committed (end_from (replied t) c.amid)) q ≡ finite.get (committed (asked t)) q
      rows_again q h = rest.rows q (follow (Table q) h) ∙ one.rows q h

    by_shape : (m : Message) → holds (session (asked t) k).locks All S ≡ true → shape t.stmt (see (asked t) k) ≡ Some m → t.reply ≡ Msg m → t.reply ≡ answer t.stmt (apply (session (asked t) k).work (committed (end_from (replied t) c.amid)))
    by_shape m all is e =
        let now : Tables = apply (session (asked t) k).work (committed (end_from (replied t) c.amid)) in
        let same : shape t.stmt now ≡ Some m = shape_reads t.stmt now (see (asked t) k) (cols_apply (session (asked t) k).work (committed (end_from (replied t) c.amid)) (committed (asked t)) (table_named t.stmt) (cols_again all (table_named t.stmt))) ∙ is in
        e ∙ sym (ap (λ (o : Option Message). or_reply o (change_and_reply t.stmt now).1) same)

    by_data : Reads (asked t) k t.stmt → t.reply ≡ answer t.stmt (apply (session (asked t) k).work (committed (end_from (replied t) c.amid)))
    by_data r =
        let now : Tables = apply (session (asked t) k).work (committed (end_from (replied t) c.amid)) in
        seen ∙ sym (answer_reads t.stmt now (see (asked t) k) (get_apply (session (asked t) k).work (committed (end_from (replied t) c.amid)) (committed (asked t)) (table_named t.stmt) (rows_again r.all (table_named t.stmt) r.table)))

    inside_is : t.reply ≡ answer t.stmt (apply (session (asked t) k).work (committed (end_from (replied t) c.amid)))
    inside_is = elim over [
      | ByShape m all is e ↦ by_shape m all is e
      | ByData (inl zero) none e ↦ absurd (let a = before in omega (arith, a, zero))
      | ByData (inr r) none e ↦ by_data r
    ]

  -- at SERIALIZABLE, in a transaction that commits, it would be the same just before the commit
  pub inside : IsAloneInside t
  inside serial c = inside_is serial c

-- in a legal history statements on the source's tables are answered as if alone
pub are_alone : AreAlone
are_alone opening scripts book k n legal t about = (outside opening scripts book k n legal t about, inside opening scripts book k n legal t about)

-- and by what their session sees
pub are_seen : AreSeen
are_seen opening scripts book k n legal t about = seen opening scripts book k n legal t about
