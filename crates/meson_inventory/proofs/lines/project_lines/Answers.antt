use Rattle.std.proofs.Common.{[], ◌++◌, ap, ap₂, ◌∙◌, append_assoc}
use Rattle.std.specs.Prelude.{codes, flat_map}
use Rattle.meson_inventory.specs.Holdings.{holdings}
use Rattle.meson_inventory.specs.Inventory.{call_line, file_line}
use Rattle.meson_inventory.specs.declared.holdings.Holdings.{Holdings}
use Rattle.meson_inventory.proofs.lines.project_lines.Goals as goal

pub returns : goal.returns
returns c =
    let l = c.args.project.now in
    let targets = c.in_ok-text.ensures ∙ ap₂ (λ fs cs. flat_map (call_line fs []) cs) c.files-files.ensures (c.get.ensures ∙ ap (λ (h : Holdings). h.targets) c.in_ok-held.ensures) in
    let names = c.as_str.ensures.value ∙ c.in_ok-names.ensures ∙ ap (flat_map file_line) c.files-files.ensures in
    let left =
    c.as_str-2.ensures.value ∙ c.in_ok-left.ensures ∙ ap₂ (λ fs cs. flat_map (call_line fs (codes ", not entered")) cs) c.files-files.ensures (c.get-2.ensures ∙ ap (λ (h : Holdings). h.not_entered) c.in_ok-held.ensures) in
    c.in_ok-push_str-2.ensures.bytes ∙ ap₂ (λ a b. a ++ b) (c.in_ok-push_str.ensures.bytes ∙ ap₂ (λ a b. a ++ b) targets names) left
    ∙ append_assoc (flat_map (call_line l.files []) (holdings c.args.reading l).targets) (flat_map file_line l.files) (flat_map (call_line l.files (codes ", not entered")) (holdings c.args.reading l).not_entered)
