-- One more entry of a trail, and one fewer.
use Rattle.std.proofs.Common.{◌≡◌, List, [], ◌∷◌, ◌++◌, refl, ap, sym, subst, ◌∙◌, append_assoc}
use Rattle.std.proofs.lemmas.List.{append-nil}
use Rattle.plain_model.specs.declared.event.Event.{Event}
use Rattle.step_trail.specs.Entries.{Entry, Sizes, events_in, book_of, EachBehind}
use Rattle.step_trail.specs.Walked.{IsEntry, Walked}

pub book_append : (es fs : List Entry) → book_of (es ++ fs) ≡ book_of es ++ book_of fs
book_append [] fs = refl
book_append (e ∷ es) fs = ap (λ b. events_in e ++ b) (book_append es fs) ∙ sym (append_assoc (events_in e) (book_of es) (book_of fs))

pub book_more : (es : List Entry) (e : Entry) → book_of (es ++ e ∷ []) ≡ book_of es ++ events_in e
book_more es e = book_append es (e ∷ []) ∙ ap (λ b. book_of es ++ b) (append-nil (events_in e))

module _ (P : List Entry → Entry → Type 0) where
  behind_one : (before : List Entry) (x : Entry) (xs : List Entry) → (before ++ x ∷ []) ++ xs ≡ before ++ x ∷ xs
  behind_one before x xs = append_assoc before (x ∷ []) xs

  pub each_more : (before es : List Entry) (e : Entry) → EachBehind P before es → P (before ++ es) e → EachBehind P before (es ++ e ∷ [])
  each_more before [] e h p = (subst (λ b. P b e) (append-nil before) p, tt)
  each_more before (x ∷ xs) e h p = (h.0, each_more (before ++ x ∷ []) xs e h.1 (subst (λ b. P b e) (sym (behind_one before x xs)) p))

  pub each_front : (before es fs : List Entry) → EachBehind P before (es ++ fs) → EachBehind P before es
  each_front before [] fs h = tt
  each_front before (x ∷ xs) fs h = (h.0, each_front (before ++ x ∷ []) xs fs h.1)

  pub each_at : (before es : List Entry) (e : Entry) (fs : List Entry) → EachBehind P before (es ++ e ∷ fs) → P (before ++ es) e
  each_at before [] e fs h = subst (λ b. P b e) (sym (append-nil before)) h.0
  each_at before (x ∷ xs) e fs h = subst (λ b. P b e) (behind_one before x xs) (each_at (before ++ x ∷ []) xs e fs h.1)

pub walked_more : (z : Sizes) (es : List Entry) (e : Entry) (book : List Event) → Walked z es book → IsEntry z es e → Walked z (es ++ e ∷ []) (book ++ events_in e)
walked_more z es e book w is = record {
  joined = book_more es e ∙ ap (λ b. b ++ events_in e) w.joined;
  each = each_more (IsEntry z) [] es e w.each is;
}

pub walked_front : (z : Sizes) (es fs : List Entry) (book : List Event) → Walked z (es ++ fs) book → Walked z es (book_of es)
walked_front z es fs book w = record { joined = refl; each = each_front (IsEntry z) [] es fs w.each }

pub walked_at : (z : Sizes) (es : List Entry) (e : Entry) (fs : List Entry) (book : List Event) → Walked z (es ++ e ∷ fs) book → IsEntry z es e
walked_at z es e fs book w = each_at (IsEntry z) [] es e fs w.each
