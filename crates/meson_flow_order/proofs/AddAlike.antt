-- Assignments that stand at one place are one.
use Rattle.std.proofs.Common.{◌≡◌, ◌<◌, ℕ, zero, suc, List, [], ◌∷◌, length, sym, ap, ap₂, subst, ◌∙◌, arith}
use Rattle.std.specs.Prelude.{true, false, Some, slice_index_or, if◌then◌else◌}
use Rattle.std.specs.List.{Contains}
use Rattle.std.proofs.lemmas.List.{append_cancel_right}
use Rattle.meson_lex.specs.declared.kinds.Span.{Span}
use Rattle.meson_syntax.specs.Tree.{assign}
use Rattle.meson_syntax.specs.Paths.{block_of}
use Rattle.meson_syntax.specs.Children.{a_block}
use Rattle.meson_syntax.specs.inside.Children.{node_at}
use Rattle.meson_syntax.proofs.parsing.Steps.{some-injective}
use Rattle.meson_syntax.proofs.paths.Every.{Every}
use Rattle.meson_calls.specs.declared.call.CallRef.{CallRef}
use Rattle.meson_calls.specs.Notes.{is_set}
use Rattle.meson_calls.specs.Parts.{Part, a_statement, an_expression, parts}
use Rattle.meson_calls.specs.Project.{BuildFile, Project, child, nth_file, place, placed}
use Rattle.meson_calls.proofs.CallsReached.{InProject, every_part}
use Rattle.meson_calls.proofs.nodes.PartsBelow.{any}
use Rattle.meson_flow_order.specs.Standing.{AddAlike}
use Rattle.meson_flow_order.proofs.Among.{same_place}

any_is : (x y : Part Span) → any x ≡ any y → x ≡ y
any_is (an_expression e) (an_expression f) same = cc
any_is (an_expression e) (a_statement s) same = absurd (let no : ⊥ = cc in no)
any_is (a_statement s) (an_expression e) same = absurd (let no : ⊥ = cc in no)
any_is (a_statement s) (a_statement t) same = cc

each_one : {X : Type 0} (P : X → Type 0) (xs : List X) (x : X) → Every P xs → Contains xs x → P x
each_one P [] x all has = let within = has.1 in absurd (omega (arith, within))
each_one P (y ∷ ys) x all has = go has.0 has.1 has.2 all (λ i within same. each_one P ys x all.1 (i, within, same))
  where
    go : (i : ℕ) → i < length (y ∷ ys) → slice_index_or (y ∷ ys) i x ≡ x → Every P (y ∷ ys) → ((j : ℕ) → j < length ys → slice_index_or ys j x ≡ x → P x) → P x
    go zero within same both later = subst P same both.0
    go (suc i) within same both later = later i (omega (arith, within)) same

-- a place has one part
one_part : (p : Project Span) (c : CallRef) (y z : Part Span) → InProject 0 p (placed c y) → InProject 0 p (placed c z) → y ≡ z
one_part p c y z i j =
    let one = i.is_number in
    let two = j.is_number in
    let numbers : i.number ≡ j.number = omega (arith, one, two) in
    let files : i.file ≡ j.file = some-injective i.file j.file (sym i.is_file ∙ ap (nth_file p) numbers ∙ j.is_file) in
    let node : Some (any y) ≡ Some (any z) = sym i.is_node ∙ ap (λ (f : BuildFile Span). node_at (a_block (block_of f.tree)) c.path.steps) files ∙ j.is_node in
    any_is y z (some-injective (any y) (any z) node)

same_parent : (c d : CallRef) → child c 0 ≡ child d 0 → c ≡ d
same_parent c d same = ap₂ place (ap (λ q. q.file) same) (append_cancel_right c.path.steps d.path.steps (0 ∷ []) (ap (λ q. q.path.steps) same))

pub add_alike : AddAlike
add_alike p x m n s t same =
    let children : child s.statement 0 ≡ child t.statement 0 = sym (ap (λ v. v.place) s.value) ∙ same_place m n same ∙ ap (λ v. v.place) t.value in
    let statements : s.statement ≡ t.statement = same_parent s.statement t.statement children in
    let one = a_statement (assign s.span s.name s.operator s.expression) in
    let two = a_statement (assign t.span t.name t.operator t.expression) in
    let first = each_one (InProject 0 p) (parts p) (placed s.statement one) (every_part 0 p) s.part in
    let second = each_one (InProject 0 p) (parts p) (placed t.statement two) (every_part 0 p) t.part in
    let parts_same : one ≡ two = one_part p t.statement one two (subst (λ c. InProject 0 p (placed c one)) statements first) second in
    let operators : s.operator ≡ t.operator = cc in
    let expressions : s.expression ≡ t.expression = cc in
    (s.value ∙ ap₂ placed children expressions ∙ sym t.value, s.adds ∙ ap (λ a. if is_set a then false else true) operators ∙ sym t.adds)
