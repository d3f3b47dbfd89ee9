-- Answers one after another.
use Rattle.std.proofs.Common.{◌≡◌, ℕ, ◌+◌, ◌<◌, ◌-◌, zero, suc, List, length, drop, get_or, map, refl, sym, ap, subst, ◌∙◌, arith}
use Rattle.std.specs.Prelude.{Bool, true, false, ◌||◌, if◌then◌else◌, Some}
use Rattle.std.proofs.lemmas.List.{at_drop_more}
use Rattle.meson_lex.specs.declared.kinds.Span.{Span}
use Rattle.meson_syntax.specs.declared.tree.Operand.{Operand}
use Rattle.meson_syntax.specs.Tree.{Expression, Operands, operands_of}
use Rattle.meson_syntax.specs.View.{expr_view, operands_view}
use Rattle.meson_calls.specs.declared.call.CallRef.{CallRef}
use Rattle.meson_calls.specs.Project.{Project, child}
use Rattle.meson_calls.proofs.Parted.{operand_value}
use Rattle.meson_variables.specs.Expansion.{are_plus}
use Rattle.meson_following.specs.Flows.{known_at}
use Rattle.meson_following.specs.Lists.{Asked, Seen, has_list_by, has_plain_list, is_list_by, is_list_maker, is_list_variable, is_made_list, is_plain_list, or_asked, seen_all, seen_with, told}
use Rattle.meson_following.specs.Makers.{Made, Maker}

module _ (b : Bool) (left : ℕ) (a : Asked) (more : ℕ → Asked) (is : told b left ≡ a) where
  pub or_yes : b ≡ true → told true left ≡ or_asked a more
  or_yes holds = subst (λ x. told true left ≡ or_asked x more) is (subst (λ c. told true left ≡ or_asked (told c left) more) (sym holds) refl)

  pub or_no : (r : Asked) → b ≡ false → r ≡ more left → r ≡ or_asked a more
  or_no r fails so = subst (λ x. r ≡ or_asked x more) is (subst (λ c. r ≡ or_asked (told c left) more) (sym fails) so)

-- ---- operands

module _ (variable : CallRef → List ℕ → ℕ → Asked) (source : List ℕ) (q : CallRef) (rest : List Operand) (i : ℕ) (d : Operand) (before left : ℕ) (whole : Asked) where
  abbrev pub operands_from : ℕ → ℕ → Asked
  operands_from n now = has_list_by variable q (n + 1) (operands_of (operands_view source (drop n rest))) now

  abbrev pub answer_here : Asked
  answer_here = is_list_by variable (child q (i + 1)) (expr_view source (get_or rest i d).value) before

  next : i < length rest → operands_from i before ≡ or_asked answer_here (operands_from (i + 1))
  next within =
      at_drop_more (λ os. has_list_by variable q (i + 1) (operands_of (operands_view source os)) before) rest i d within
      ∙ ap (λ e. or_asked (is_list_by variable (child q (i + 1)) e before) (operands_from (i + 1))) (operand_value source (get_or rest i d))

  pub operand_found : (b : Bool) → i < length rest → told b left ≡ answer_here → b ≡ true → operands_from i before ≡ whole → told true left ≡ whole
  operand_found b within is holds so_far = or_yes b left answer_here (operands_from (i + 1)) is holds ∙ sym (next within) ∙ so_far

  pub operand_passed : (b : Bool) → i < length rest → told b left ≡ answer_here → b ≡ false → operands_from i before ≡ whole → operands_from (i + 1) left ≡ whole
  operand_passed b within is fails so_far = or_no b left answer_here (operands_from (i + 1)) is (operands_from (i + 1) left) fails refl ∙ sym (next within) ∙ so_far

-- whether there is a list whatever variables hold
module _ (source : List ℕ) (rest : List Operand) (i : ℕ) (o : Operand) (whole : Bool) (at_i : o ≡ get_or rest i o) where
  abbrev plain_from : ℕ → Bool
  plain_from n = has_plain_list (operands_of (operands_view source (drop n rest)))

  abbrev is_plain : Bool
  is_plain = is_plain_list (expr_view source o.value)

  plain_next : i < length rest → plain_from i ≡ (is_plain || plain_from (i + 1))
  plain_next within =
      at_drop_more (λ os. has_plain_list (operands_of (operands_view source os))) rest i o within
      ∙ ap (λ e. is_plain_list e || plain_from (i + 1)) (operand_value source (get_or rest i o) ∙ ap (λ (x : Operand). expr_view source x.value) (sym at_i))

  pub plain_found : i < length rest → is_plain ≡ true → plain_from i ≡ whole → true ≡ whole
  plain_found within is so_far = sym (ap (λ b. b || plain_from (i + 1)) is) ∙ sym (plain_next within) ∙ so_far

  pub plain_passed : i < length rest → is_plain ≡ false → plain_from i ≡ whole → plain_from (i + 1) ≡ whole
  plain_passed within is so_far = sym (plain_next within ∙ ap (λ b. b || plain_from (i + 1)) is) ∙ so_far

-- ---- sums

module _ (variable : CallRef → List ℕ → ℕ → Asked) (q : CallRef) (e : Expression Span) (os : Operands Span) (left : ℕ) where
  abbrev by_variables : Asked
  by_variables = or_asked (is_list_by variable (child q 0) e left) (λ now. has_list_by variable q 1 os now)

  abbrev sum : Asked
  sum = if has_plain_list os then told true left else by_variables

  pub plain_sum : are_plus os ≡ true → has_plain_list os ≡ true → (if are_plus os then sum else told false left) ≡ told true left
  plain_sum sums plain = ap (λ b. if b then sum else told false left) sums ∙ ap (λ b. if b then told true left else by_variables) plain

  pub other_sum : are_plus os ≡ true → has_plain_list os ≡ false → (if are_plus os then sum else told false left) ≡ by_variables
  other_sum sums other = ap (λ b. if b then sum else told false left) sums ∙ ap (λ b. if b then told true left else by_variables) other

-- ---- makers

module _ {X : Type 0} (view : X → Maker Span) (ask : Maker Span → ℕ → Asked) (xs : List X) (i : ℕ) (x : X) (whole : Seen) where
  pub maker_seen : (t after : Seen) (a : Asked) → i < length xs → x ≡ get_or xs i x → a ≡ ask (view x) t.left → after ≡ seen_with (view x) t a
      → seen_all ask (map view (drop i xs)) t ≡ whole → seen_all ask (map view (drop (i + 1) xs)) after ≡ whole
  maker_seen t after a within at_i is step so_far =
      ap (seen_all ask (map view (drop (i + 1) xs))) (step ∙ ap (seen_with (view x) t) is ∙ ap (λ y. seen_with (view y) t (ask (view y) t.left)) at_i)
      ∙ sym (at_drop_more (λ ys. seen_all ask (map view ys) t) xs i x within)
      ∙ so_far

-- ---- a variable

module _ (p : Project Span) (x : List ℕ) (q : CallRef) (k : Made Span) (is : known_at p x q ≡ Some k) where
  pub variable_made : (depth left : ℕ) → 0 < depth → 0 < left → is_made_list (is_list_maker p (depth - 1)) (Some k) (left - 1) ≡ is_list_variable p depth q x left
  variable_made zero left some more = absurd (omega (arith, some))
  variable_made (suc depth) zero some more = absurd (omega (arith, more))
  variable_made (suc depth) (suc left) some more =
      let d : suc depth - 1 ≡ depth = omega arith in
      let n : suc left - 1 ≡ left = omega arith in
      ap (λ e. is_made_list (is_list_maker p e) (Some k) (suc left - 1)) d
      ∙ ap (λ m. is_made_list (is_list_maker p depth) (Some k) m) n
      ∙ ap (λ o. is_made_list (is_list_maker p depth) o left) (sym is)
