-- The array of some values is written where each value is.
use Rattle.std.proofs.Common.{◌≡◌, ℕ, ◌≤◌, List, [], ◌∷◌, map, refl, sym, ap, subst, ◌++◌}
use Rattle.meson_syntax.specs.Grammar.{LevelExpression, expression_depth, expression_words}
use Rattle.meson_syntax.proofs.paths.Every.{Every}
use Rattle.meson_edit.specs.Places.{IsWritten}
use Rattle.meson_steps.specs.WrittenTexts.{comma_between}
use Rattle.meson_steps.specs.declared.given.Given.{Given}
use Rattle.meson_steps.specs.Code.{IsValue}
use Rattle.meson_places.specs.Several.{AllMayBeGiven, all_written, array_bytes, written_array}
use Rattle.meson_places.specs.Values.{given_bytes}
use Rattle.meson_steps.proofs.WrittenArrays.{AreWritten, Value, array_level, array_low, array_written}
use Rattle.meson_places.proofs.GivenWritten.{given_level, given_low, given_written}

each_written : (gs : List Given) (mays : AllMayBeGiven gs) → AreWritten (all_written gs mays)
each_written [] mays = tt
each_written (g ∷ gs) mays = (given_written g mays.0, each_written gs mays.1)

pub each_level : (gs : List Given) (mays : AllMayBeGiven gs) → Every (λ (w : Value). LevelExpression w.node) (all_written gs mays)
each_level [] mays = tt
each_level (g ∷ gs) mays = (given_level g mays.0, each_level gs mays.1)

pub each_low : (gs : List Given) (mays : AllMayBeGiven gs) → Every (λ (w : Value). expression_depth w.node ≤ 64) (all_written gs mays)
each_low [] mays = tt
each_low (g ∷ gs) mays = (given_low g mays.0, each_low gs mays.1)

bytes_of : (gs : List Given) (mays : AllMayBeGiven gs) → map (λ (w : Value). w.bytes) (all_written gs mays) ≡ map given_bytes gs
bytes_of [] mays = refl
bytes_of (g ∷ gs) mays = ap (λ l. given_bytes g ∷ l) (bytes_of gs mays.1)

pub array_is_written : (gs : List Given) (mays : AllMayBeGiven gs) → IsWritten (array_bytes gs) (expression_words (written_array gs mays).node)
array_is_written gs mays =
    subst (λ bs. IsWritten (91 ∷ (comma_between bs ++ 93 ∷ [])) (expression_words (written_array gs mays).node)) (bytes_of gs mays) (array_written (all_written gs mays) (each_written gs mays))

abbrev pub array_value : (gs : List Given) (mays : AllMayBeGiven gs) → IsValue (array_bytes gs)
array_value gs mays = record {
  node = (written_array gs mays).node;
  writes = array_is_written gs mays;
  level = array_level (all_written gs mays) (each_level gs mays);
  shallow = array_low 64 (all_written gs mays) (each_low gs mays);
}

-- as the code has it
pub array_text : (gs : List Given) (mays : AllMayBeGiven gs) (text : List ℕ) → text ≡ array_bytes gs → (x : IsValue text) × (x.node ≡ (written_array gs mays).node)
array_text gs mays text is = subst (λ t. (x : IsValue t) × (x.node ≡ (written_array gs mays).node)) (sym is) (array_value gs mays, refl)
