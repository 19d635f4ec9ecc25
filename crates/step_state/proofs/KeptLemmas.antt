-- The invariant is kept: of other sessions by what a step leaves them.
use Rattle.std.proofs.Common.{◌≡◌, ◌≢◌, ℕ, [], ◌++◌, ◌-◌, ◌<◌, ◌≤◌, true, false, List, refl, ap, sym, subst, ◌∙◌, inl, inr, arith}
use Rattle.std.specs.Prelude.{Option, Some, None, slice_index_or, unwrap_or}
use Rattle.std.specs.List.{AllByRecursion}
use Rattle.std.proofs.lemmas.Bool.{cases_eq, cases_Bool}
use Rattle.page_base.specs.declared.numbers.Mode.{Mode}
use Rattle.page_base.specs.declared.numbers.PageId.{PageId}
use Rattle.page_base.specs.declared.numbers.SnapNo.{SnapNo}
use Rattle.page_base.specs.Slots.{Slots}
use Rattle.latch_book.specs.declared.latch.Latch.{Latch}
use Rattle.latch_book.specs.Latches.{latch_of}
use Rattle.page_fmt.specs.Content.{content}
use Rattle.page_fmt.specs.Seen.{Looked}
use Rattle.plain_model.specs.State.{Session, session, see, copy}
use Rattle.plain_model.specs.Meaning.{change_and_reply}
use Rattle.plain_model.specs.Tables.{Tables}
use Rattle.snap_pages.specs.Cuts.{place_of, marked_by, is_sound_by}
use Rattle.snap_pages.specs.Shown.{catalog, counts}
use Rattle.snap_pages.specs.Views.{IsKept, view}
use Rattle.sys_cat.specs.declared.desc.TableDesc.{TableDesc}
use Rattle.step_words.specs.Seats.{Seated}
use Rattle.step_state.specs.State.{State, Fixed, IsSession, sess, seat, machine, alone_of, before_of}
use Rattle.step_state.specs.Holding.{lock_at}
use Rattle.step_state.specs.Snapshots.{IsBeside}
use Rattle.step_state.specs.Own.{IsSeated, IsInStep, IsAside, IsSafeSession, making_in, IsPlaced}
use Rattle.step_state.specs.Told.{IsToldSource, IsToldReading, IsTold}
use Rattle.step_state.specs.Safe.{Safe}
use Rattle.step_state.specs.Steps.{Guards, LeavesQuiet, LeavesContent, Quietly, Each, Steps}

-- FOUR AND EIGHT VALUES THAT ARE THE SAME

pub seated_same : (files files' : List ℕ) (x : Seated) (latch latch' : Option Latch) (held held' : ℕ → Option Mode) → files' ≡ files → latch' ≡ latch → held' ≡ held → IsSeated files x latch held → IsSeated files' x latch' held'
seated_same files files' x latch latch' held held' f l h a =
    subst (λ g. IsSeated g x latch' held') (sym f) (subst (λ g. IsSeated files x g held') (sym l) (subst (λ (g : ℕ → Option Mode). IsSeated files x latch g) (sym h) a))

pub source_same : (files files' : List ℕ) (ds : List TableDesc) (x : Seated) (held held' : ℕ → Option Mode) (m m' : Session) (own own' before before' : Slots) (tables tables' : Tables)
    → files' ≡ files → held' ≡ held → m' ≡ m → own' ≡ own → before' ≡ before → tables' ≡ tables → IsToldSource files ds x held m own before tables → IsToldSource files' ds x held' m' own' before' tables'
source_same files files' ds x held held' m m' own own' before before' tables tables' f h s o b t a =
    subst (λ g. IsToldSource g ds x held' m' own' before' tables') (sym f)
    (subst (λ (g : ℕ → Option Mode). IsToldSource files ds x g m' own' before' tables') (sym h)
    (subst (λ g. IsToldSource files ds x held g own' before' tables') (sym s)
    (subst (λ (g : Slots). IsToldSource files ds x held m g before' tables') (sym o)
    (subst (λ (g : Slots). IsToldSource files ds x held m own g tables') (sym b)
    (subst (λ g. IsToldSource files ds x held m own before g) (sym t) a)))))

-- ANOTHER SESSION

module _ (e s : State) (k : ℕ) (g : Guards e s k) (j : ℕ) (is : IsSession e j) (ne : j ≢ k) where
  beside_kept : IsBeside e.pages (seat e j) → IsBeside s.pages (seat e j)
  beside_kept b = record {
    reads = λ c p within at.
        let old = b.reads c p within at in
        let same : marked_by s.pages c p ≡ marked_by e.pages c p = g.snaps.reads j c p is ne within at in (
          (λ f. same ∙ old.0 f),
          (λ f. elim (old.1 f) [
            | inl m ↦ inl (same ∙ m)
            | inr u ↦ inr (unsound c (b.named c within).0 u)
          ]),
        );
    marks = λ c p copied hold sound. g.snaps.marks j c p is ne copied hold sound ∙ b.marks c p copied hold (g.snaps.sound c (b.copied c copied) sound);
    copies = λ c p copied hold kept.
        let old = g.snaps.bytes j c p is ne copied hold kept in
        old.1 ∙ b.copies c p copied hold old.0 ∙ sym old.2;
    paid = λ c making at none sound. g.snaps.owed j c is ne making ∙ b.paid c making at none (g.snaps.sound c (b.made c making).0 sound);
    copied = λ c copied. let lt = b.copied c copied in omega (arith, lt, g.snaps.rises);
    made = λ c made. let old = b.made c made in (omega (arith, old.0, g.snaps.rises), (g.snaps.made j c is ne made).1);
    named = λ c within. let old = b.named c within in (omega (arith, old.0, g.snaps.rises), g.snaps.named j c is ne within ∙ old.1);
  }
    where
      unsound : (c : ℕ) → c < (catalog e.pages).next_cut → is_sound_by e.pages c ≡ false → is_sound_by s.pages c ≡ false
      unsound c lt u = elim (cases_Bool (is_sound_by s.pages c)) [
        | inl t ↦ absurd (let wrong : true ≡ false = sym (g.snaps.sound c lt t) ∙ u in cc)
        | inr f ↦ f
      ]

  making_same : making_in s.pages (seat e j).making ≡ making_in e.pages (seat e j).making
  making_same = by (seat e j).making refl
    where
      by : (o : Option ℕ) → (seat e j).making ≡ o → making_in s.pages o ≡ making_in e.pages o
      by None at = refl
      by (Some c) at = (g.snaps.made j c is ne at).0

  in_step_kept : IsInStep e.pages (seat e j) (session (machine e) j) (machine e).moment → IsInStep s.pages (seat e j) (session (machine e) j) (machine s).moment
  in_step_kept a = record {
    said = a.said;
    current = a.current;
    depth = a.depth;
    level = a.level;
    idle = a.idle;
    making = a.making ∙ sym making_same;
    gone = a.gone;
    rested = λ t. let old = a.rested t in (old.0, omega (arith, old.1, g.later));
    begun = λ f. let old = a.begun f in (old.0, later (session (machine e) j).first old.1);
  }
    where
      later : (o : Option ℕ) → (seat e j).began ≤ unwrap_or o (machine e).moment → (seat e j).began ≤ unwrap_or o (machine s).moment
      later None le = omega (arith, le, g.later)
      later (Some n) le = le

  aside_kept : ((who : ℕ) (snap : List ℕ) → (machine e).restoring ≡ Some (who, snap) → IsAside (seat e j) (lock_at e j) e.fixed.opening.source snap) → (who : ℕ) (snap : List ℕ) → (machine s).restoring ≡ Some (who, snap) → IsAside (seat e j) (lock_at e j) e.fixed.opening.source snap
  aside_kept a who snap at = elim (g.aside who snap at) [
    | inl old ↦ a who snap old
    | inr new ↦ new j is ne
  ]

  session_over : IsSafeSession e j → (x : Seated) → x ≡ seat e j → IsSeated (counts s.pages) x (latch_of s.latches (sess j)) (lock_at s j) × IsBeside s.pages x × IsInStep s.pages x (session (machine s) j) (machine s).moment × ((who : ℕ) (snap : List ℕ) → (machine s).restoring ≡ Some (who, snap) → IsAside x (lock_at s j) e.fixed.opening.source snap)
  session_over a x at =
      subst (λ y. IsSeated (counts s.pages) y (latch_of s.latches (sess j)) (lock_at s j) × IsBeside s.pages y × IsInStep s.pages y (session (machine s) j) (machine s).moment × ((who : ℕ) (snap : List ℕ) → (machine s).restoring ≡ Some (who, snap) → IsAside y (lock_at s j) e.fixed.opening.source snap)) (sym at) (
        seated_same (counts e.pages) (counts s.pages) (seat e j) (latch_of e.latches (sess j)) (latch_of s.latches (sess j)) (lock_at e j) (lock_at s j) g.files (g.latches j ne) (g.locks j ne) a.seated,
        beside_kept a.beside,
        subst (λ m. IsInStep s.pages (seat e j) m (machine s).moment) (sym (g.sessions j is ne)) (in_step_kept a.in_step),
        (λ who snap restores. subst (λ (held : ℕ → Option Mode). IsAside (seat e j) held e.fixed.opening.source snap) (sym (g.locks j ne)) (aside_kept a.aside who snap restores)),
      )

  pub session_kept : IsSafeSession e j → IsSafeSession s j
  session_kept a =
      let t = session_over a (seat s j) (g.seats j ne) in
      record {
        seated = t.0;
        beside = t.1;
        placed = subst (λ (f : Fixed). IsPlaced (seat s j) f.opening.source) (sym g.fixed) (subst (λ x. IsPlaced x e.fixed.opening.source) (sym (g.seats j ne)) a.placed);
        script = ap (λ x. x.sitting.script) (g.seats j ne) ∙ a.script ∙ ap (λ ss. slice_index_or ss (j - 1) []) (sym g.scripts);
        in_step = t.2;
        aside = λ who snap restores. subst (λ (f : Fixed). IsAside (seat s j) (lock_at s j) f.opening.source snap) (sym g.fixed) (t.3 who snap restores);
      }

  pub reading_kept : ((c : ℕ) (n : SnapNo) → (seat e j).sitting.within ≡ Some c → place_of s.pages c ≡ Some n → IsKept s.pages n → (o : SnapNo) × (place_of e.pages c ≡ Some o) × IsKept e.pages o × (view s.pages n ≡ view e.pages o))
      → ((c : ℕ) → (seat e j).sitting.within ≡ Some c → copy (machine s) (seat e j).sitting.current ≡ copy (machine e) (seat e j).sitting.current)
      → IsToldReading e.pages (machine e) (seat e j) → IsToldReading s.pages (machine s) (seat s j)
  reading_kept views copies r = subst (λ x. IsToldReading s.pages (machine s) x) (sym (g.seats j ne)) (record {
    seen = λ cut n c within place kept course at.
        let old = views cut n within place kept in
        subst (λ (v : PageId → List ℕ). AllByRecursion (λ (l : Looked). content (v l.page) ≡ l.slots) (c.base ++ c.seen)) (sym old.3) (r.seen cut old.0 c within old.1 old.2 course at);
    image = λ cut n p rows within place kept point found.
        let old = views cut n within place kept in
        r.image cut old.0 p rows within old.1 old.2 point found ∙ sym (λ i. old.3 i p);
    reply = λ cut n c within place kept course at ended.
        let old = views cut n within place kept in
        r.reply cut old.0 c within old.1 old.2 course at ended ∙ ap (λ t. Some (change_and_reply c.stmt t).1) (sym (copies cut within));
  })

  module _ (q : LeavesQuiet e s k) where
    pub told_kept : (ds : List TableDesc) → IsTold e ds j → IsTold s ds j
    told_kept ds t = record {
      source = subst (λ x. IsToldSource (counts s.pages) ds x (lock_at s j) (session (machine s) j) (alone_of s j) (before_of s j) (see (machine s) j)) (sym (g.seats j ne))
          (source_same (counts e.pages) (counts s.pages) ds (seat e j) (lock_at e j) (lock_at s j) (session (machine e) j) (session (machine s) j) (alone_of e j) (alone_of s j) (before_of e j) (before_of s j) (see (machine e) j) (see (machine s) j)
          g.files (g.locks j ne) (g.sessions j is ne) (q.alone j is ne) (q.before j is ne) (q.see j is ne) t.source);
      reading = reading_kept (λ c n. q.views j c n is ne) (λ c. q.copies j c is ne) t.reading;
    }

-- THE WHOLE

same_sessions : (e s : State) (k : ℕ) → Guards e s k → (j : ℕ) → IsSession s j → IsSession e j
same_sessions e s k g j is = record { first = is.first; last = omega (arith, is.last, g.many) }

pub kept : (e s : State) (k : ℕ) → Safe e → Steps e s k → Safe s
kept e s k safe st = record {
  sessions = λ j is. elim (cases_eq j k) [
    | inl here ↦ subst (IsSafeSession s) (sym here) (st.own (subst (IsSession s) here is))
    | inr ne ↦ session_kept e s k st.guards j (same_sessions e s k st.guards j is) ne (safe.sessions j (same_sessions e s k st.guards j is))
  ];
  whole = st.whole;
  content = λ told.
      let old = safe.content (ap (λ (f : Fixed). f.told) (sym st.guards.fixed) ∙ told) in
      let new = st.content (ap (λ (f : Fixed). f.told) (sym st.guards.fixed) ∙ told) old.0 old.1 in (
        new.0,
        (
          new.1,
          (λ j is. elim (cases_eq j k) [
            | inl here ↦ subst (IsTold s new.0) (sym here) (new.2 (subst (IsSession s) here is))
            | inr ne ↦ other old.0 new.0 (old.1.1) new.3 j (same_sessions e s k st.guards j is) ne
          ]),
        ),
      );
}
  where
    other : (ds es : List TableDesc) → ((j : ℕ) → IsSession e j → IsTold e ds j) → LeavesContent e s k ds es → (j : ℕ) → IsSession e j → j ≢ k → IsTold s es j
    other ds es each (Quietly same q) j is ne = subst (λ fs. IsTold s fs j) (sym same) (told_kept e s k st.guards j is ne q ds (each j is))
    other ds es each (Each shown) j is ne = shown j is ne
