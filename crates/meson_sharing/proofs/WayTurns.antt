-- Ways that are taken one after another.
use Rattle.std.proofs.Common.{◌≡◌, ℕ, ◌+◌, ◌<◌, List, [], ◌++◌, length, drop, get_or, refl, sym, ap, ◌∙◌, append-nil, append_assoc}
use Rattle.std.specs.Prelude.{Bool, true, false, if◌then◌else◌, Option, Some, None}
use Rattle.std.specs.List.{cons_option}
use Rattle.std.proofs.lemmas.List.Concat.{flat_map-append}
use Rattle.meson_lex.specs.declared.kinds.Span.{Span}
use Rattle.meson_syntax.specs.declared.tree.Arg.{Arg}
use Rattle.meson_syntax.specs.declared.tree.Expr.TheVariants as expr
use Rattle.meson_syntax.specs.declared.tree.Expr.{Expr}
use Rattle.meson_syntax.specs.declared.tree.List as rust
use Rattle.meson_syntax.specs.declared.tree.Operand.{Operand}
use Rattle.meson_syntax.specs.Tree.{Expression, arguments_of, operands_of}
use Rattle.meson_syntax.specs.View.{arg_view, args_view, expr_view, operand_view, operands_view}
use Rattle.meson_calls.specs.declared.call.CallRef.{CallRef}
use Rattle.meson_calls.specs.Calls.{Numbered, value_with_name, value_without_name}
use Rattle.meson_calls.specs.ChosenNotes.{call_with, placed_call}
use Rattle.meson_calls.specs.NamedArguments.{kept_arg, kept_args, rest, sources_key}
use Rattle.meson_calls.specs.Project.{child, place, placed}
use Rattle.meson_calls.proofs.KeptArguments.{kept_here}
use Rattle.meson_calls.proofs.Listed.{list_is}
use Rattle.meson_calls.proofs.Parted.{conditional_view, operand_value, row_is}
use Rattle.meson_variables.specs.Expansion.{are_plus}
use Rattle.meson_following.specs.CodeArguments.{value_by}
use Rattle.meson_sharing.specs.CodeWays.{target_ways, value_ways}
use Rattle.meson_sharing.specs.Sharing.{ways, ways_of_element, ways_of_elements, ways_of_operands, ways_of_target, ways_of_values}
use Rattle.meson_following.proofs.TakenTurns.{taken_turn, two_taken}

module _ (source : List ℕ) (q : CallRef) where
  abbrev pub elements_from : ℕ → List Arg → List CallRef
  elements_from n args = ways_of_elements q n (arguments_of (args_view source args))

  abbrev pub element_ways : ℕ → Arg → List CallRef
  element_ways n a = ways_of_element q n (arg_view source a)

  pub element_turn : (args : List Arg) (i : ℕ) (d : Arg) (before after whole here : List CallRef) → i < length args → after ≡ before ++ here
      → here ≡ element_ways i (get_or args i d) → before ++ elements_from i (drop i args) ≡ whole → after ++ elements_from (i + 1) (drop (i + 1) args) ≡ whole
  element_turn args i d before after whole here within first is_here so_far =
      taken_turn elements_from element_ways (λ a. 1) (λ n a as_. refl) args i d i (i + 1) before after whole here within first is_here refl so_far

  abbrev pub operands_from : ℕ → List Operand → List CallRef
  operands_from n os = ways_of_operands q n (operands_of (operands_view source os))

  abbrev pub operand_ways : ℕ → Operand → List CallRef
  operand_ways n o = ways (child q n) (operand_view source o).1

  pub operand_turn : (os : List Operand) (i : ℕ) (d : Operand) (before after whole : List CallRef) → i < length os
      → after ≡ before ++ ways (child q (i + 1)) (expr_view source (get_or os i d).value)
      → before ++ operands_from (i + 1) (drop i os) ≡ whole → after ++ operands_from ((i + 1) + 1) (drop (i + 1) os) ≡ whole
  operand_turn os i d before after whole within first so_far =
      taken_turn operands_from operand_ways (λ o. 1) (λ n o more. refl) os i d (i + 1) ((i + 1) + 1) before after whole
      (ways (child q (i + 1)) (expr_view source (get_or os i d).value)) within first (ap (ways (child q (i + 1))) (sym (operand_value source (get_or os i d)))) refl so_far

-- ---- in an expression

module _ (source : List ℕ) (q : CallRef) (x : Expr) (before middle after : List CallRef) where
  pub conditional_taken : (s : Span) (c y n y2 n2 : Expr) → x ≡ expr.Conditional s c y n → y2 ≡ y → n2 ≡ n
      → middle ≡ before ++ ways (child q 1) (expr_view source y2) → after ≡ middle ++ ways (child q 2) (expr_view source n2)
      → after ≡ before ++ ways q (expr_view source x)
  conditional_taken s c y n y2 n2 is holds fails first second =
      two_taken before middle after (ways (child q 1) (expr_view source y2)) (ways (child q 2) (expr_view source n2)) first second
      ∙ ap (λ e. before ++ (ways (child q 1) (expr_view source e) ++ ways (child q 2) (expr_view source n2))) holds
      ∙ ap (λ e. before ++ (ways (child q 1) (expr_view source y) ++ ways (child q 2) (expr_view source e))) fails
      ∙ ap (λ v. before ++ ways q v) (sym (ap (expr_view source) is ∙ conditional_view source s c y n))

  module _ (s : Span) (e f : Expr) (os ps : List Operand) (is : x ≡ expr.Row s e os) (same : f ≡ e) (rest : ps ≡ os) (b : Bool)
      (tested : b ≡ are_plus (operands_of (operands_view source ps))) where
    abbrev sum_ways : Bool → List CallRef
    sum_ways plus = if plus then ways (child q 0) (expr_view source f) ++ operands_from source q 1 ps else []

    row_ways : ways q (expr_view source x) ≡ sum_ways b
    row_ways = ap (ways q) (row_is source x s e f os ps is same rest) ∙ ap sum_ways (sym tested)

    pub row_passed : b ≡ false → before ≡ before ++ ways q (expr_view source x)
    row_passed fails = sym (append-nil before) ∙ ap (λ l. before ++ l) (sym (row_ways ∙ ap sum_ways fails))

    pub row_taken : b ≡ true → middle ≡ before ++ ways (child q 0) (expr_view source f) → after ≡ middle ++ operands_from source q 1 ps
        → after ≡ before ++ ways q (expr_view source x)
    row_taken holds first second =
        two_taken before middle after (ways (child q 0) (expr_view source f)) (operands_from source q 1 ps) first second
        ∙ ap (λ l. before ++ l) (sym (row_ways ∙ ap sum_ways holds))

-- ---- in arguments

module _ (source : List ℕ) (q : CallRef) (key : Option (List ℕ)) (args : List Arg) (i : ℕ) (d : Arg) where
  abbrev values_from : ℕ → List CallRef
  values_from n = ways_of_values q 0 (kept_args source (value_by key) n (drop n args))

  one_value : (before : List CallRef) (o : Option (Numbered (Expression Span))) (more : List (Numbered (Expression Span)))
      → before ++ ways_of_values q 0 (cons_option o more) ≡ (before ++ value_ways q o) ++ ways_of_values q 0 more
  one_value before None more = ap (λ b. b ++ ways_of_values q 0 more) (sym (append-nil before))
  one_value before (Some a) more = sym (append_assoc before (value_ways q (Some a)) (ways_of_values q 0 more))

  pub value_turn : (before after whole : List CallRef) → i < length args → after ≡ before ++ value_ways q (kept_arg source (value_by key) i (get_or args i d))
      → before ++ values_from i ≡ whole → after ++ values_from (i + 1) ≡ whole
  value_turn before after whole within step so_far =
      ap (λ g. g ++ values_from (i + 1)) step
      ∙ sym (one_value before (kept_arg source (value_by key) i (get_or args i d)) (kept_args source (value_by key) (i + 1) (drop (i + 1) args)))
      ∙ sym (ap (λ xs. before ++ ways_of_values q 0 xs) (kept_here source (value_by key) args i d within))
      ∙ so_far

-- ---- the arguments of a target

module _ (call : CallRef) (steps source : List ℕ) (args : List Arg) (from : ℕ) (f g h : List CallRef) (here : place call.file steps ≡ call) (none : f ≡ []) where
  abbrev values_there : CallRef → List (Numbered (Expression Span)) → List CallRef
  values_there q values = ways_of_values q 0 values

  pub both_ways : g ≡ f ++ values_there (place call.file steps) (kept_args source value_without_name from (drop from args))
      → rest (kept_args source value_without_name 0 args) ≡ kept_args source value_without_name from (drop from args)
      → h ≡ g ++ values_there (place call.file steps) (kept_args source (value_with_name sources_key) 0 args)
      → h ≡ target_ways call source args
  both_ways plains others nameds =
      let xs = kept_args source value_without_name from (drop from args) in
      let ys = kept_args source (value_with_name sources_key) 0 args in
      nameds
      ∙ ap (λ q. g ++ values_there q ys) here
      ∙ ap (λ l. l ++ values_there call ys) (plains ∙ ap (λ l. l ++ values_there (place call.file steps) xs) none ∙ ap (λ q. values_there q xs) here)
      ∙ sym (flat_map-append (λ v. ways (child call (0 + v.number)) v.value) xs ys)
      ∙ ap (λ zs. values_there call (zs ++ ys)) (sym others)

pub target_is : (call : CallRef) (function source : List ℕ) (l : rust.List) → ways_of_target (placed_call call function source l) ≡ target_ways call source l.items
target_is call function source l = ap (λ list. ways_of_target (placed call (call_with function list))) (list_is source l)
