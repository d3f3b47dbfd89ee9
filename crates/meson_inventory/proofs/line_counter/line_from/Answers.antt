use Rattle.std.proofs.Common.{◌≡◌, ◌+◌, arith}
use Rattle.meson_inventory.specs.Inventory.{line_number}
use Rattle.meson_inventory.proofs.LinesCounted.{counted_on, lines_fit}
use Rattle.meson_inventory.proofs.line_counter.line_from.Goals as goal

counted : (c : goal.After-line_feeds) → c.args.line + c.line_feeds.result ≡ line_number c.args.bytes.now c.args.at
counted c =
    counted_on c.args.bytes.now c.args.from c.args.at c.args.line c.min.result c.min-to.result c.line_feeds.result
    c.requires.found c.requires.later c.min-to.ensures c.min.ensures c.line_feeds.ensures

pub overflow_add-result : goal.overflow_add-result
overflow_add-result c = omega (arith, counted c, lines_fit c.args.bytes.now c.args.at)

pub returns : goal.returns
returns c = counted c
