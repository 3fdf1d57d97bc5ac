use Rattle.std.proofs.Common.{◌≡◌, vec_items}
use Rattle.std.specs.Slice.Iter.{chunks_rest, chunks_size}
use Rattle.console.proofs.Lines.{Begun}
use Rattle.console.proofs.report.lines_of.Given as goal

abbrev pub invariant-loop-piece : goal.invariant-loop-piece
invariant-loop-piece l = (chunks_size l.piece-iterator ≡ 24) × Begun l.file l.initial.day l.initial.memory (vec_items l.lines) (chunks_rest l.piece-iterator) l.day l.memory
