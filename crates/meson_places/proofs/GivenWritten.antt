-- What is written for a value is one expression.
use Rattle.std.proofs.Common.{◌≡◌, ◌≤◌, ℕ, Bool, List, refl, sym, ◌∙◌, subst, arith}
use Rattle.meson_syntax.specs.Grammar.{LevelExpression, expression_depth, expression_words}
use Rattle.meson_edit.specs.Places.{IsWritten}
use Rattle.meson_steps.proofs.StepsDoable.{text_written}
use Rattle.meson_steps.proofs.WrittenArrays.{truth_written}
use Rattle.meson_steps.specs.declared.given.Given.{Given}
use Rattle.meson_steps.specs.declared.given.Given.TheVariants as given
use Rattle.meson_steps.specs.Code.{IsExpression, IsValue}
use Rattle.meson_steps.specs.GivenWords.{MayBeGiven}
use Rattle.meson_places.specs.Values.{given_bytes, given_node}

pub given_written : (g : Given) (may : MayBeGiven g) → IsWritten (given_bytes g) (expression_words (given_node g may))
given_written (given.Text text) may = text_written text may
given_written (given.Switch b) may = truth_written b
given_written (given.Code code) may = may.writes

pub given_level : (g : Given) (may : MayBeGiven g) → LevelExpression (given_node g may)
given_level (given.Text text) may = tt
given_level (given.Switch b) may = tt
given_level (given.Code code) may = may.level

pub given_low : (g : Given) (may : MayBeGiven g) → expression_depth (given_node g may) ≤ 64
given_low (given.Text text) may = omega arith
given_low (given.Switch b) may = omega arith
given_low (given.Code code) may = may.shallow

pub given_low_value : (g : Given) (may : MayBeGiven g) → expression_depth (given_node g may) ≤ 65
given_low_value g may = let low = given_low g may in omega (arith, low)

abbrev pub given_value : (g : Given) (may : MayBeGiven g) → IsValue (given_bytes g)
given_value g may = record { node = given_node g may; writes = given_written g may; level = given_level g may; shallow = given_low_value g may }

-- ---- by kinds

pub code_expression : (g : Given) (code text : List ℕ) → g ≡ given.Code code → text ≡ code → (may : MayBeGiven g) → (x : IsExpression text) × (x.node ≡ given_node g may)
code_expression (given.Text t) code text is same may = absurd (let no : ⊥ = cc in no)
code_expression (given.Switch b) code text is same may = absurd (let no : ⊥ = cc in no)
code_expression (given.Code k) code text is same may = let alike : k ≡ text = let e : k ≡ code = cc in e ∙ sym same in subst (λ t. (x : IsExpression t) × (x.node ≡ may.node)) alike (may, refl)

pub flat_text : (g : Given) (text : List ℕ) → g ≡ given.Text text → (may : MayBeGiven g) → expression_depth (given_node g may) ≡ 0
flat_text (given.Text t) text is may = refl
flat_text (given.Switch b) text is may = absurd (let no : ⊥ = cc in no)
flat_text (given.Code code) text is may = absurd (let no : ⊥ = cc in no)

pub flat_switch : (g : Given) (is_set : Bool) → g ≡ given.Switch is_set → (may : MayBeGiven g) → expression_depth (given_node g may) ≡ 0
flat_switch (given.Text t) is_set is may = absurd (let no : ⊥ = cc in no)
flat_switch (given.Switch b) is_set is may = refl
flat_switch (given.Code code) is_set is may = absurd (let no : ⊥ = cc in no)

pub code_value : (g : Given) (code text : List ℕ) → g ≡ given.Code code → text ≡ code → (may : MayBeGiven g) → (x : IsValue text) × (x.node ≡ given_node g may)
code_value (given.Text t) code text is same may = absurd (let no : ⊥ = cc in no)
code_value (given.Switch b) code text is same may = absurd (let no : ⊥ = cc in no)
code_value (given.Code k) code text is same may = let alike : k ≡ text = let e : k ≡ code = cc in e ∙ sym same in subst (λ t. (x : IsValue t) × (x.node ≡ may.node)) alike (given_value (given.Code k) may, refl)
