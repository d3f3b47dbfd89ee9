use Rattle.std.specs.List.{All}
use Rattle.std.specs.Str.{IsUtf8}
use Rattle.std.proofs.Common.{subst, sym}
use Rattle.std.proofs.lemmas.List.Elements.{All-get_or}
use Rattle.meson_ranges.specs.declared.files.FileEdits.{FileEdits}
use Rattle.meson_rewrite.proofs.objects.files_array.Goals as goal

abbrev AllBoth : FileEdits → Type 0
AllBoth f = All (λ r. IsUtf8 r.edit.was × IsUtf8 r.edit.now) f.edits.items

pub file_object-requires : goal.file_object-requires
file_object-requires c = subst AllBoth (sym c.change-item.is) (All-get_or AllBoth c.args.changes.now c.loop-change.change-index c.change-item.result c.loop-change-test.true c.requires)
