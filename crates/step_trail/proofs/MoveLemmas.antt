-- What a trail tells of a session, behind one more entry; and the cause of a refusal.
use Rattle.std.proofs.Common.{◌≡◌, ℕ, zero, suc, ◌<◌, ◌||◌, List, [], ◌∷◌, ◌++◌, length, get_or, ap, subst, ◌∙◌, arith}
use Rattle.std.specs.Prelude.{Option, None}
use Rattle.std.specs.List.{Any, AllByRecursion, list_any}
use Rattle.std.proofs.lemmas.List.{append-nil}
use Rattle.std.proofs.lemmas.List.Folds.{list_any-append}
use Rattle.std.proofs.lemmas.List.Sums.{fold-append}
use Rattle.page_base.specs.declared.numbers.SessNo.{SessNo}
use Rattle.plain_model.specs.declared.event.Event.{Event}
use Rattle.plain_model.specs.declared.event.Event.TheVariants.{Said}
use Rattle.plain_model.specs.declared.kind.Kind.{Kind}
use Rattle.plain_model.specs.declared.reply.Message.{Message}
use Rattle.plain_model.specs.declared.reply.Reply.TheVariants.{Msg}
use Rattle.step_trail.specs.Entries.{Did, Entry, Step, End, Sizes, book_of, events_in, has_left, is_leaving, kind_after, last_kind, Between, phase_after, phase_of, present, present_after}
use Rattle.step_trail.specs.Walked.{IsCaused, IsEnd, IsExplained, Walked}
use Rattle.step_trail.proofs.EachLemmas.{book_more, walked_at, walked_more}

pub kind_more : (k : ℕ) (es : List Entry) (e : Entry) → last_kind k (es ++ e ∷ []) ≡ kind_after k (last_kind k es) e
kind_more k es e = fold-append (kind_after k) None es (e ∷ [])

pub phase_more : (k : ℕ) (es : List Entry) (e : Entry) → phase_of k (es ++ e ∷ []) ≡ phase_after k (phase_of k es) e
phase_more k es e = fold-append (phase_after k) Between es (e ∷ [])

pub present_more : (k : ℕ) (es : List Entry) (e : Entry) → present k (es ++ e ∷ []) ≡ present_after k (present k es) e
present_more k es e = fold-append (present_after k) [] es (e ∷ [])

pub left_more : (k : ℕ) (es : List Entry) (e : Entry) → has_left k (es ++ e ∷ []) ≡ (has_left k es || list_any (is_leaving k) (events_in e))
left_more k es e = ap (list_any (is_leaving k)) (book_more es e) ∙ list_any-append (is_leaving k) (book_of es) (events_in e)

pub all_at : {X : Type 0} (P : X → Type 0) (xs : List X) (k : ℕ) (x : X) → AllByRecursion P xs → k < length xs → get_or xs k x ≡ x → P x
all_at P [] k x h lt at = absurd (omega (arith, lt))
all_at P (y ∷ ys) zero x h lt at = subst P at h.0
all_at P (y ∷ ys) (suc k) x h lt at = all_at P ys k x h.1 (omega (arith, lt)) at

pub refusal_caused : (z : Sizes) (es : List Entry) (d : Did) (fs : List Entry) (book : List Event) (who : SessNo) (number began : ℕ) (m : Message) → Walked z (es ++ Step d ∷ fs) book
    → Any (λ (e : Event). e ≡ Said who number began (Msg m)) d.events → IsExplained z (present d.who es ++ d ∷ []) m.number
refusal_caused z es d fs book who number began m w a =
    subst (λ (e : Event). IsCaused z (present d.who es ++ d ∷ []) e) a.4 (all_at (λ (e : Event). IsCaused z (present d.who es ++ d ∷ []) e) d.events a.0 a.1 (walked_at z es (Step d) fs book w).causes a.2 a.3)

pub walked_end : (z : Sizes) (es : List Entry) (who : ℕ) (next : Option Kind) (book : List Event) → Walked z es book → IsEnd z es who next → Walked z (es ++ End who next ∷ []) book
walked_end z es who next book w is = subst (λ (b : List Event). Walked z (es ++ End who next ∷ []) b) (append-nil book) (walked_more z es (End who next) book w is)
