use Rattle.std.proofs.Common.{string_bytes, arith}
use Rattle.std.proofs.lemmas.Result.{err_from_is_err_and}
use Rattle.custody_day.proofs.Days.{begins, performs, goes_on, ends}
use Rattle.custody_day.proofs.telling.tell_day.Goals as goal

pub loop-done-init : goal.loop-done-init
loop-done-init g c =
    begins g.C.Custody c.args.custody.now c.args.steps.now (string_bytes c.new-text.result) c.new-text.ensures.bytes

pub loop-done-preserved : goal.loop-done-preserved
loop-done-preserved g c =
    goes_on g.C.Custody c.args.custody.now c.args.steps.now (string_bytes c.loop-done.text) c.loop-done.custody c.perform-outcome.new.custody
    c.loop-done.done _ _ c.loop-done-test.true c.perform-outcome.ensures c.loop-done.invariant (string_bytes c.add_line.new.text)
    _ c.in_ok-add_line.ensures (omega arith)

pub returns-in_err-add_line : goal.returns-in_err-add_line
returns-in_err-add_line g c =
    let went =
    performs g.C.Custody c.args.custody.now c.args.steps.now (string_bytes c.loop-done.text) c.loop-done.custody c.perform-outcome.new.custody
    c.loop-done.done _ _ c.loop-done-test.true c.perform-outcome.ensures c.loop-done.invariant
    in
    rw (err_from_is_err_and c.from_residual.result c.from_residual.ensures.1).1 (record { text = tt; went = (c.loop-done.done, c.loop-done-test.true, went) })

pub returns : goal.returns
returns g c =
    let end =
    ends g.C.Custody c.args.custody.now c.args.steps.now (string_bytes c.loop-done.text) c.loop-done.custody c.loop-done.done
    c.loop-done-test.false c.loop-done.invariant
    in
    record { text = end.0; went = end.1 }
