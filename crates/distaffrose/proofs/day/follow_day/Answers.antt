use Rattle.std.proofs.Common.{◌≡◌, string_bytes, ap, ◌∙◌}
use Rattle.std.proofs.lemmas.Result.{IfOk-weaker}
use Rattle.distaffrose.specs.Day.{text_of, day_lines}
use Rattle.distaffrose.proofs.Fresh.{told_fresh, the_day, day_told}
use Rattle.distaffrose.proofs.day.follow_day.Goals as goal

pub returns : goal.returns
returns c =
    let over = c.new-custody.ensures in
    let fresh =
    told_fresh the_day _ c.in-Ok.lots.store.now _ (ap (λ l. l.store.now) over.held) c.in-Ok.ensures.queues over.unmarked
    in
    IfOk-weaker c.tell_day.result _ (λ text. string_bytes text ≡ text_of day_lines) (λ text told. told ∙ fresh ∙ day_told) c.tell_day.ensures.text
