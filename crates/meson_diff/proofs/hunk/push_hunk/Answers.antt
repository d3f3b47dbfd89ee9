use Rattle.std.proofs.Common.{◌+◌, ◌-◌, ◌∙◌, ◌++◌, ap, drop, take, arith}
use Rattle.std.specs.Prelude.{flat_map}
use Rattle.std.proofs.lemmas.List.{length-take}
use Rattle.meson_diff.specs.Hunks.{entry_text}
use Rattle.meson_diff.proofs.Counting.{new_within, old_within}
use Rattle.meson_diff.proofs.Written.{text_written}
use Rattle.meson_diff.proofs.hunk.push_hunk.Goals as goal

pub head-requires-clause-old_fits : goal.head-requires-clause-old_fits
head-requires-clause-old_fits c =
    omega (arith, old_within (take c.args.at c.args.entries.now), length-take c.args.at c.args.entries.now, c.requires.of_old)

pub head-requires-clause-new_fits : goal.head-requires-clause-new_fits
head-requires-clause-new_fits c =
    omega (arith, new_within (take c.args.at c.args.entries.now), length-take c.args.at c.args.entries.now, c.requires.of_new)

pub returns : goal.returns
returns c =
    text_written c.args.entries.now c.args.at c.shown_len.result c.args.before.of_old c.counted.result.of_old c.args.before.of_new c.counted.result.of_new
    c.args.to.now.items c.as_bytes.result.now c.push_entries.new.to.items
    c.requires.of_old c.requires.of_new c.shown_len.ensures.value c.counted.ensures.of_old c.counted.ensures.of_new
    (c.as_bytes.ensures.value ∙ c.in_ok-line.ensures)
    (c.in_ok-push_entries.ensures ∙ ap (λ l. l ++ flat_map entry_text (take (c.args.at + c.shown_len.result - c.args.at) (drop c.args.at c.args.entries.now))) c.in_ok-extend_from_slice.ensures.items)
