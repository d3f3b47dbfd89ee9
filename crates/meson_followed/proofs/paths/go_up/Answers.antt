use Rattle.std.proofs.Common.{◌≡◌, ◌-◌, length, map, take, rules, sym, ap, ◌∙◌}
use Rattle.std.specs.Prelude.{false, true, bytes_eq, slice_get, None, option_map}
use Rattle.std.proofs.lemmas.List.{map-append}
use Rattle.meson_followed.specs.Paths.{upward}
use Rattle.meson_followed.proofs.WrittenPaths.{first_up, goes_further_up, last_of_map, part_goes, root_stays, without_last}
use Rattle.meson_followed.proofs.paths.go_up.Goals as goal
use Rattle.meson_followed.proofs.paths.go_up.Goals.{in-Some+else-is_empty+else-ne, in_default}

pub returns-then-is_empty : goal.returns-then-is_empty
returns-then-is_empty c =
    let items = c.args.parts.now.items in
    let last = ap (λ xs. slice_get xs (length xs - 1)) (sym c.as_slice.ensures.value) ∙ sym c.last.ensures.value ∙ sym c.copied.ensures ∙ c.in-Some.is in
    sym (root_stays (map (λ x. x.now) items) c.in-Some.last.now (sym (last_of_map (λ x. x.now) items) ∙ ap (option_map (λ x. x.now)) last)
    (sym c.is_empty.ensures ∙ c.if-is_empty.true))

pub returns-then-ne : goal.returns-then-ne
returns-then-ne c =
    let items = c.args.parts.now.items in
    let last = ap (λ xs. slice_get xs (length xs - 1)) (sym c.as_slice.ensures.value) ∙ sym c.last.ensures.value ∙ sym c.copied.ensures ∙ c.in-Some.is in
    let other : bytes_eq c.in-Some.last.now upward ≡ false = search rules in
    let many = sym c.as_slice.ensures.len ∙ ap length c.as_slice.ensures.value in
    ap (map (λ x. x.now)) (c.pop.ensures.rest ∙ ap (λ n. take (n - 1) items) many) ∙ without_last (λ x. x.now) items
    ∙ sym (part_goes (map (λ x. x.now) items) c.in-Some.last.now (sym (last_of_map (λ x. x.now) items) ∙ ap (option_map (λ x. x.now)) last)
    (sym c.is_empty.ensures ∙ c.if-is_empty.false) other)

pub returns : goal.returns
returns c =
    let items = c.args.parts.now.items in
    let last_copied = ap (λ xs. slice_get xs (length xs - 1)) (sym c.as_slice.ensures.value) ∙ sym c.last.ensures.value ∙ sym c.copied.ensures in
    let there = sym (last_of_map (λ x. x.now) items) ∙ ap (option_map (λ x. x.now)) last_copied in
    let pushed = ap (map (λ x. x.now)) c.in_ok-push.ensures.items ∙ map-append (λ x. x.now) items _ in
    elim c.match-copied.branch [
      | in-Some+else-is_empty+else-ne w ↦
          (let up : bytes_eq w.in-Some.last.now upward ≡ true = search rules in
          pushed ∙ sym (goes_further_up (map (λ x. x.now) items) w.in-Some.last.now (there ∙ ap (option_map (λ x. x.now)) w.in-Some.is)
          (sym w.is_empty.ensures ∙ w.if-is_empty.false) up))
      | in_default w ↦
          (let none : c.copied.result ≡ None = search rules in
          pushed ∙ sym (first_up (map (λ x. x.now) items) (there ∙ ap (option_map (λ x. x.now)) none)))
    ]
