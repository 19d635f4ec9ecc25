-- Writing a text piece by piece.
use Rattle.std.proofs.Common.{◌≡◌, ℕ, ◌+◌, List, ◌++◌, length, take, drop, ap, sym, ◌∙◌, arith, length-append, append_assoc}
use Rattle.std.specs.Prelude.{Option}
use Rattle.std.specs.Io.KnownBytes.{Appends}
use Rattle.std.proofs.KnownBytes.{Appends-trans, Appends-kept}
use Rattle.std.proofs.Math.Seq.{take-append-add, take-append_seam}
use Rattle.std.proofs.lemmas.List.{take-append-drop}
use Rattle.page_dev.specs.Sink.{AppendsFront, Leaves}
use Rattle.page_dev.specs.declared.sink.SinkRefusal.{SinkRefusal}
use Rattle.page_dev.specs.declared.sink.SinkRefusal.TheVariants.{Failed, Memory}

-- some front of the bytes is written, and the rest is left
pub record Written (old now : Option (List ℕ)) (bytes rest : List ℕ) : Type 0 where
  pub done : List ℕ
  pub all : bytes ≡ done ++ rest
  pub taken : Appends old now done

pub written_more : (old mid now : Option (List ℕ)) (bytes rest : List ℕ) (n : ℕ) → Written old mid bytes rest → Appends mid now (take n rest) → Written old now bytes (drop n rest)
written_more old mid now bytes rest n h w = record {
  done = h.done ++ take n rest;
  all = h.all ∙ ap (λ (r : List ℕ). h.done ++ r) (sym (take-append-drop n rest)) ∙ sym (append_assoc h.done (take n rest) (drop n rest));
  taken = Appends-trans old mid now h.done (take n rest) h.taken w;
}

pub written_front : (old mid now : Option (List ℕ)) (bytes rest : List ℕ) (e : SinkRefusal) → Written old mid bytes rest → Leaves mid now e rest → AppendsFront old now bytes
written_front old mid now bytes rest Failed h w = rw h.all (length h.done + w.0, simp length-append (omega (arith, w.1)), rw (take-append-add h.done rest w.0) (Appends-trans old mid now h.done (take w.0 rest) h.taken w.2))
written_front old mid now bytes rest Memory h w = rw h.all (length h.done, simp length-append (omega arith), rw (take-append_seam h.done rest) (Appends-kept old mid now h.done h.taken w))
