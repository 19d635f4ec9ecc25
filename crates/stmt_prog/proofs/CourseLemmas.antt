-- What a course keeps at each stage, by the program's state.
use Rattle.std.proofs.Common.{refl, ◌≡◌, ◌≢◌, ℕ, zero, suc, ◌<◌, ◌≤◌, ◌^◌, Bool, true, false, cond, List, [], ◌∷◌, length, drop, ap, sym, subst, arith, inl, inr}
use Rattle.std.specs.Prelude.{Option, Some, None, nat_lt}
use Rattle.std.specs.List.{AllByRecursion}
use Rattle.std.proofs.lemmas.Bool.{ltb-true, ltb-false}
use Rattle.page_base.specs.declared.numbers.PageId.{PageId}
use Rattle.page_base.specs.declared.numbers.TableNo.{TableNo}
use Rattle.page_fmt.specs.Seen.{Looked, Shows}
use Rattle.plain_model.specs.declared.reply.Reply.{Reply}
use Rattle.plain_model.specs.Free.{is_of_tables}
use Rattle.plain_model.specs.Sound.{is_sound}
use Rattle.sys_cat.specs.declared.desc.TableDesc.{TableDesc}
use Rattle.sys_cat.specs.Rows.{zero_root}
use Rattle.table_walk.specs.declared.visit.Visit.{Visit}
use Rattle.table_walk.specs.Answers.{IsNext}
use Rattle.table_walk.specs.Tables.{is_leaf}
use Rattle.table_walk.specs.Walk.{Lacks, IsDone}
use Rattle.page_tables.specs.Layout.{shape, first}
use Rattle.table_scan.specs.Scanned.{Scanned, IsNextOf}
use Rattle.step_words.specs.declared.stage.Stage.TheVariants as stages
use Rattle.step_words.specs.Courses.{Course, Draft}
use Rattle.stmt_course.specs.Keeping.{IsCourse, IsTableOf, IsDraftBelow}
use Rattle.stmt_course.specs.Knowing.{Finds, IsFound}
use Rattle.stmt_course.specs.Planning.{stage_after}
use Rattle.stmt_prog.specs.Heads.{Headed}
use Rattle.stmt_prog.specs.Drafts.{all_drafts}
use Rattle.stmt_prog.specs.States.{begun, course_of, drafts, zero_stage, own_stage, IsState, IsReading, IsFoundIn, IsLackingIn, IsTableIn}
use Rattle.stmt_prog.specs.declared.state.State.{State}
use Rattle.stmt_prog.specs.declared.state.State.TheVariants.{AskAll, ScanZero, AskTable, ScanOwn, Planning, Defining, Writing}

no_table : {P : Type 0} (d : TableDesc) → ◌≡◌ {A = Option TableDesc} None (Some d) → P
no_table d e = absurd (let wrong : ◌≡◌ {A = Option TableDesc} None (Some d) = e in cc)

same_table : (d e : TableDesc) → Some d ≡ Some e → d ≡ e
same_table d e is = (let f : Some d ≡ Some e = is in cc)

not_true : {P : Type 0} → false ≡ true → P
not_true e = absurd (let wrong : false ≡ true = e in cc)

not_false : {P : Type 0} → true ≡ false → P
not_false e = absurd (let wrong : true ≡ false = e in cc)

next_page : (s : Scanned) (root : PageId) (r : IsReading s root) → IsNext shape.kids s.seen (first root) r.2.0.page (is_leaf r.2.0)
next_page s root r = record {
  visit = r.2.0;
  lacks = subst (λ (p : PageId). Lacks shape.kids s.seen (first p) r.2.0) r.1 (subst (IsNextOf s.seen s.root) r.2.1 r.0);
  is = refl;
  leaf = refl;
}

finds_in : (h : Headed) (looked : List Looked) (d : TableDesc) (c : Course) → IsFoundIn h.stmt looked d → c.stmt ≡ h.stmt → c.base ≡ looked → c.desc ≡ Some d → Finds c
finds_in h looked d c f s b e = record {
  whole = subst (λ (l : List Looked). IsDone shape.kids l (first zero_root)) (sym b) f.whole;
  found = λ files at ds tables base shows.
      subst (λ o. IsFound ds tables c.stmt o) (sym e) (subst (λ x. IsFound ds tables x (Some d)) (sym s) (f.found files at ds tables base (subst (λ (l : List Looked). Shows l at) b shows)));
}

finds_none : (h : Headed) (looked : List Looked) (number : TableNo) (c : Course) → IsLackingIn h.stmt looked number → c.stmt ≡ h.stmt → c.base ≡ looked → c.desc ≡ None → Finds c
finds_none h looked number c f s b e = record {
  whole = subst (λ (l : List Looked). IsDone shape.kids l (first zero_root)) (sym b) f.whole;
  found = λ files at ds tables base shows.
      subst (λ o. IsFound ds tables c.stmt o) (sym e) (subst (λ x. IsFound ds tables x None) (sym s) (f.found files at ds tables base (subst (λ (l : List Looked). Shows l at) b shows)));
}

pub below_drop : (n k : ℕ) (ds : List Draft) → AllByRecursion (IsDraftBelow n) ds → AllByRecursion (IsDraftBelow n) (drop k ds)
below_drop n zero ds a = a
below_drop n (suc k) [] a = tt
below_drop n (suc k) (d ∷ ds) a = below_drop n k ds a.1

module _ (h : Headed) (tables : is_of_tables h.stmt ≡ true) (sound : is_sound h.stmt ≡ true) where
  asking : IsCourse (begun h)
  asking = record {
    at = tt;
    tables = tables;
    sound = sound;
    table = λ d e. no_table d e;
    emptied = λ e. not_true e;
    unasked = λ e. (refl, refl);
    unread = λ e. refl;
    fresh = λ e. (refl, refl, refl);
    taken = omega arith;
    claimed = λ e. refl;
    below = tt;
    small = tt;
    replied = λ e. not_true e;
  }

  reading_zero : (s : Scanned) → IsReading s zero_root → IsCourse (course_of h (ScanZero s))
  reading_zero s r = subst (λ (o : Option Visit). IsCourse (record (begun h) { stage = zero_stage o; base = s.seen })) (sym r.2.1) (record {
    at = (is_leaf r.2.0, next_page s zero_root r);
    tables = tables;
    sound = sound;
    table = λ d e. no_table d e;
    emptied = λ e. not_true e;
    unasked = λ e. not_false e;
    unread = λ e. refl;
    fresh = λ e. (refl, refl, refl);
    taken = omega arith;
    claimed = λ e. refl;
    below = tt;
    small = tt;
    replied = λ e. not_true e;
  })

  asking_table : (s : Scanned) (d : TableDesc) (own : Scanned) → IsFoundIn h.stmt s.seen d → IsCourse (course_of h (AskTable s d own))
  asking_table s d own f = record {
    at = (finds_in h s.seen d (course_of h (AskTable s d own)) f refl refl refl, (d, refl));
    tables = tables;
    sound = sound;
    table = λ e is. subst (IsTableOf h.stmt) (same_table d e is) f.table;
    emptied = λ e. not_true e;
    unasked = λ e. not_false e;
    unread = λ e. refl;
    fresh = λ e. (refl, refl, refl);
    taken = omega arith;
    claimed = λ e. refl;
    below = tt;
    small = tt;
    replied = λ e. not_true e;
  }

  reading_own : (s : Scanned) (d : TableDesc) (own : Scanned) → IsFoundIn h.stmt s.seen d → IsReading own d.root → IsCourse (course_of h (ScanOwn s d own))
  reading_own s d own f r = subst (λ (o : Option Visit). IsCourse (record (begun h) { stage = own_stage o; base = s.seen; desc = Some d; seen = own.seen })) (sym r.2.1) (record {
    at = (finds_in h s.seen d (record (begun h) { stage = own_stage (Some r.2.0); base = s.seen; desc = Some d; seen = own.seen }) f refl refl refl, (d, refl, next_page own d.root r));
    tables = tables;
    sound = sound;
    table = λ e is. subst (IsTableOf h.stmt) (same_table d e is) f.table;
    emptied = λ e. not_true e;
    unasked = λ e. not_false e;
    unread = λ e. not_false e;
    fresh = λ e. (refl, refl, refl);
    taken = omega arith;
    claimed = λ e. refl;
    below = tt;
    small = tt;
    replied = λ e. not_true e;
  })

  planning : (s : Scanned) (d : TableDesc) (own : Scanned) → IsState h (Planning s d own) → IsCourse (course_of h (Planning s d own))
  planning s d own p = record {
    at = (finds_in h s.seen d (course_of h (Planning s d own)) p.0 refl refl refl, p.1);
    tables = tables;
    sound = sound;
    table = λ e is. subst (IsTableOf h.stmt) (same_table d e is) p.0.table;
    emptied = λ e. not_true e;
    unasked = λ e. not_false e;
    unread = λ e. not_false e;
    fresh = λ e. (refl, refl, refl);
    taken = omega arith;
    claimed = λ e. refl;
    below = tt;
    small = tt;
    replied = λ e. not_true e;
  }

  defining : (s : Scanned) (number : TableNo) → IsLackingIn h.stmt s.seen number → IsCourse (course_of h (Defining s number))
  defining s number l = record {
    at = (finds_none h s.seen number (course_of h (Defining s number)) l refl refl refl, tt);
    tables = tables;
    sound = sound;
    table = λ e is. no_table e is;
    emptied = λ e. not_true e;
    unasked = λ e. not_false e;
    unread = λ e. not_false e;
    fresh = λ e. (refl, refl, refl);
    taken = omega arith;
    claimed = λ e. refl;
    below = tt;
    small = tt;
    replied = λ e. not_true e;
  }

  table_in : (o : Option TableDesc) → IsTableIn h o → (e : TableDesc) → o ≡ Some e → IsTableOf h.stmt e
  table_in None t e is = no_table e is
  table_in (Some d) t e is = subst (IsTableOf h.stmt) (same_table d e is) t

  module _ (d : Option TableDesc) (owners : List ℕ) (taken : List PageId) (reply : Reply) (table : IsTableIn h d) (few : length taken ≤ length owners) (small : AllByRecursion (λ number. number < 2 ^ 31) owners) where
    abbrev writes : List Draft → Bool → Course
    writes ds b = record (begun h) { stage = cond b stages.Claim (stage_after ds); desc = d; owners = owners; taken = taken; edits = ds; reply = Some reply }

    some_reply : ◌≢◌ {A = Option Reply} (Some reply) None
    some_reply e = absurd (let wrong : ◌≡◌ {A = Option Reply} (Some reply) None = e in cc)

    its_table : (e : TableDesc) → d ≡ Some e → IsTableOf h.stmt e
    its_table = table_in d table

    writing_by : (ds : List Draft) (b : Bool) → nat_lt (length taken) (length owners) ≡ b → AllByRecursion (IsDraftBelow (length owners)) ds → IsCourse (writes ds b)
    writing_by ds true lt below = record {
      at = ltb-true (length taken) (length owners) lt;
      tables = tables;
      sound = sound;
      table = its_table;
      emptied = λ e. (refl, refl);
      unasked = λ e. not_false e;
      unread = λ e. not_false e;
      fresh = λ e. not_false e;
      taken = few;
      claimed = λ e. elim e [
        | inl f ↦ absurd (let wrong : stages.Claim ≡ stages.Edit = f in cc)
        | inr f ↦ absurd (let wrong : stages.Claim ≡ stages.End = f in cc)
      ];
      below = below;
      small = small;
      replied = λ e. some_reply;
    }
    writing_by [] false lt below = record {
      at = refl;
      tables = tables;
      sound = sound;
      table = its_table;
      emptied = λ e. (refl, refl);
      unasked = λ e. not_false e;
      unread = λ e. not_false e;
      fresh = λ e. not_false e;
      taken = few;
      claimed = λ e. omega (arith, few, ltb-false (length taken) (length owners) lt);
      below = below;
      small = small;
      replied = λ e. some_reply;
    }
    writing_by (x ∷ ds) false lt below = record {
      at = λ e. absurd (let n : suc (length ds) ≡ 0 = ap length e in omega arith);
      tables = tables;
      sound = sound;
      table = its_table;
      emptied = λ e. (refl, refl);
      unasked = λ e. not_false e;
      unread = λ e. not_false e;
      fresh = λ e. not_false e;
      taken = few;
      claimed = λ e. omega (arith, few, ltb-false (length taken) (length owners) lt);
      below = below;
      small = small;
      replied = λ e. some_reply;
    }

  pub is_course : (s : State) → IsState h s → IsCourse (course_of h s)
  is_course (AskAll s) is = asking
  is_course (ScanZero s) is = reading_zero s is
  is_course (AskTable s d own) is = asking_table s d own is.0
  is_course (ScanOwn s d own) is = reading_own s d own is.0 is.1
  is_course (Planning s d own) is = planning s d own is
  is_course (Defining s number) is = defining s number is
  is_course (Writing d q reply) is = writing_by d q.owners.items q.taken.items reply is.0 is.1.taken is.1.small (drafts q) (nat_lt (length q.taken.items) (length q.owners.items)) refl (below_drop (length q.owners.items) q.done (all_drafts q.told q.edits.items) is.1.below)
