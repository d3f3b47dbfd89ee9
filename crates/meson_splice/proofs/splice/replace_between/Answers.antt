use Rattle.std.proofs.Common.{◌≡◌, ◌∙◌, ℕ, List, ◌++◌, drop, take, ap, sym, append_assoc}
use Rattle.std.specs.Iterator.Adapters.{copied_source}
use Rattle.std.specs.Slice.Iter.{iter_rest}
use Rattle.std.proofs.lemmas.Iterator.{YieldsList-from_slice, items_from_drains}
use Rattle.std.proofs.lemmas.Iterator.Consumers.{YieldsList-from_copied}
use Rattle.std.proofs.lemmas.List.{map-id}
use Rattle.meson_splice.proofs.splice.replace_between.Goals as goal

-- what the iterator gave is what is lent
pub returns : goal.returns
returns c =
    let old = c.args.bytes.now.items in
    let new = c.args.new.now in
    let done = c.in_ok-splice.ensures.items in
    let left = ap (λ s. iter_rest (copied_source s)) done.2 ∙ ap iter_rest c.copied.ensures.source ∙ c.iter.ensures.rest in
    let all : done.1 ≡ new = sym (map-id done.1) ∙ items_from_drains done.1 (done.3.1.0, done.3.1.1, λ _. (done.3.0, done.3.1.2)) (YieldsList-from_copied (YieldsList-from_slice new left)) in
    let replaced = ap (λ l. take c.args.from old ++ (l ++ drop c.args.to old)) all ∙ sym (append_assoc (take c.args.from old) new (drop c.args.to old)) in
    ◌∙◌ {A = List ℕ} done.4 replaced
