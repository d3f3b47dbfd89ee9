use Rattle.std.proofs.Common.{◌≡◌, ℕ, ◌-◌, ◌++◌, length, map, take, min, ap, ◌∙◌, append_assoc, arith, subst}
use Rattle.std.specs.Prelude.{OnOk, codes}
use Rattle.std.proofs.lemmas.List.{take_min}
use Rattle.meson_explaining.specs.Notes.{further}
use Rattle.meson_explaining.specs.Targets.{read_note}
use Rattle.meson_explaining.proofs.targets.add_reads.Goals as goal

others : (n k : ℕ) → n ≡ min 3 k → k - n ≡ k - 3
others n k is = omega (arith, is)

pub returns : goal.returns
returns c =
    let places = c.args.places.now in
    let note = read_note c.args.project.now c.args.name.now in
    let before = c.args.notes.now.items in
    let shown : take c.min-shown.result places ≡ take 3 places = ap (λ n. take n places) c.min-shown.ensures ∙ take_min 3 places in
    let first : c.add_each.new.notes.items ≡ before ++ map note (take 3 places) = c.in_ok-add_each.ensures ∙ ap (λ ps. before ++ map note ps) shown in
    let left : length places - c.min-shown.result ≡ length places - 3 = others c.min-shown.result (length places) c.min-shown.ensures in
    let more = further (codes "further places where it is read") (length places - 3) in
    let joined = ap (λ k. k ++ more) first ∙ append_assoc before (map note (take 3 places)) more in
    subst (λ z. OnOk c.add_further.result (c.add_further.new.notes.items ≡ z)) joined
    (subst (λ n. OnOk c.add_further.result (c.add_further.new.notes.items ≡ c.add_each.new.notes.items ++ further (codes "further places where it is read") n)) left c.add_further.ensures)
