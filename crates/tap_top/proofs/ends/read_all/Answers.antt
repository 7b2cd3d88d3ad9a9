use Rattle.std.proofs.Common.{◌++◌, inl, arith}
use Rattle.std.proofs.lemmas.List.{length-take}
use Rattle.std.proofs.lemmas.Result.{err_from_is_err_and}
use Rattle.tap_top.proofs.Passing.{read_fails, reads_input, reads_more, reads_none, reads_piece, same_error}
use Rattle.tap_top.proofs.ends.read_all.Goals as goal

pub loop-room-init : goal.loop-room-init
loop-room-init g c = record {
  room = c.in_ok-room.ensures.len;
  so_far = reads_none (g.S.Source.left c.args.source.now) (g.S.Source.faults c.args.source.now) c.new-bytes.result.items c.new-bytes.ensures.items;
  well = λ w. w;
}

pub returns-in_err-read_piece-clause-failed : goal.returns-in_err-read_piece-clause-failed
returns-in_err-read_piece-clause-failed g c =
    let p = err_from_is_err_and c.from_residual-in_err-read_piece.result c.from_residual-in_err-read_piece.ensures.1 in
    let e = c.in_err-read_piece.ensures in
    rw (p.1, p.2) (λ h.
    let f = e.failed (same_error _ _ h) in
    read_fails _ _ _ _ _ _ _ _ c.loop-room.bytes.items c.loop-room.invariant.so_far f.0 f.1 c.loop-room.invariant.well f.2)

pub returns-in_err-read_piece-clause-no_memory : goal.returns-in_err-read_piece-clause-no_memory
returns-in_err-read_piece-clause-no_memory g c =
    let p = err_from_is_err_and c.from_residual-in_err-read_piece.result c.from_residual-in_err-read_piece.ensures.1 in
    let e = c.in_err-read_piece.ensures in
    rw (p.1, p.2) (λ h.
    let f = e.no_memory (same_error _ _ h) in
    let fits = f.2 in
    (c.loop-room.bytes.items ++ f.0, reads_more _ _ _ _ _ _ c.loop-room.bytes.items f.0 c.loop-room.invariant.so_far f.1 f.3 (omega (arith, fits, length-take c.min-most.result c.deref_mut.result.now))))

pub returns-then-branch-eq0-clause-input : goal.returns-then-branch-eq0-clause-input
returns-then-branch-eq0-clause-input g c =
    let e = c.in_ok-read_piece.ensures in
    reads_input _ _ (reads_piece _ _ _ _ _ _ c.loop-room.bytes.items _ _ _ c.loop-room.invariant.so_far e.read e.no_fault (omega (arith, length-take c.min-most.result c.deref_mut.result.now))) (inl (e.read.end c.if-branch-eq0.true))

pub loop-room-preserved : goal.loop-room-preserved
loop-room-preserved g c =
    let e = c.in_ok-read_piece.ensures in
    record {
      room = c.loop-room.invariant.room;
      so_far = reads_piece _ _ _ _ _ _ c.loop-room.bytes.items _ _ _ c.loop-room.invariant.so_far e.read e.no_fault (omega (arith, length-take c.min-most.result c.deref_mut.result.now));
      well = λ w. e.well (c.loop-room.invariant.well w) (omega (arith, c.if-branch-eq0.false));
    }
