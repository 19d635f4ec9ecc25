-- The step that drops a snapshot: its statement is answered in it.
use Rattle.std.specs.Prelude.{ℕ, ◌≡◌, ◌≢◌, ◌⊎◌, List, Some}
use Rattle.page_base.specs.declared.numbers.SnapNo.{SnapNo}
use Rattle.plain_model.specs.declared.reply.Reply.{Reply}
use Rattle.plain_model.specs.declared.reply.Reply.TheVariants.{Ok, Msg}
use Rattle.plain_model.specs.declared.reply.TheConstants.Message.{FILE_NOT_REMOVED}
use Rattle.plain_model.specs.declared.stmt.Stmt.TheVariants.{DropDb}
use Rattle.plain_model.specs.Messages.{plain}
use Rattle.snap_cat.specs.Catalog.{IsNamed}
use Rattle.snap_pages.specs.Shown.{catalog, cut_of}
use Rattle.step_words.specs.declared.point.Point.TheVariants.{Start}
use Rattle.step_words.specs.Sittings.{stmt_at}
use Rattle.step_state.specs.State.{State, IsSession, seat}
use Rattle.safe_say.specs.Answering.{Answers}
use Rattle.safe_say.specs.Saying.{TakesOut}

pub record DoesDrop (e s : State) (k : ℕ) (began : ℕ) : Type 0 where
  pub at : (seat e k).sitting.point ≡ Start
  pub name : List ℕ
  pub has : stmt_at (seat e k).sitting ≡ Some (DropDb name)
  pub place : SnapNo
  pub named : IsNamed (catalog e.pages) name place
  -- nobody is in it, and nobody makes it
  pub empty : (j : ℕ) → IsSession e j → (seat e j).sitting.within ≢ Some (cut_of e.pages place)
  pub made : (j : ℕ) → IsSession e j → (seat e j).making ≢ Some (cut_of e.pages place)
  pub out : TakesOut e.pages s.pages (cut_of e.pages place) place
  -- all its files are removed, or one wasn't
  pub reply : Reply
  pub which : (reply ≡ Ok) ⊎ (reply ≡ Msg (plain FILE_NOT_REMOVED))
  pub answers : Answers e s k (record (seat e k) { began = began }) (Some (DropDb name)) reply
  pub latches : s.latches ≡ e.latches
