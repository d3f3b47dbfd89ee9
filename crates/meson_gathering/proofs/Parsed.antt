-- The trees of the files that were looked at.
use Rattle.std.proofs.Common.{◌≡◌, ℕ, suc, ◌<◌, ◌≤◌, List, [], ◌∷◌, ◌++◌, length, take, sym, subst, arith}
use Rattle.std.proofs.lemmas.List.{take_all}
use Rattle.meson_splice.specs.declared.file_set.File.{File}
use Rattle.meson_splice.specs.Files.{bytes_at}
use Rattle.meson_syntax.specs.declared.tree.Parsed.{Parsed}
use Rattle.meson_syntax.specs.Reads.{IsSpanned}
use Rattle.meson_syntax.specs.View.{view}
use Rattle.meson_calls.specs.Loading.{AreParsed}

-- one more file has its tree
parsed-next : (old more : List File) (trees : List Parsed) (tree : Parsed) → length trees < length old
    → IsSpanned (bytes_at (length trees) old) (view (bytes_at (length trees) old) tree)
    → AreParsed (take (length trees) old) trees → AreParsed (take (suc (length trees)) (old ++ more)) (trees ++ tree ∷ [])
parsed-next [] more trees tree within reads h = absurd (omega arith)
parsed-next (f ∷ old) more [] tree within reads h = (reads, tt)
parsed-next (f ∷ old) more (t ∷ trees) tree within reads h =
    let below : length trees < length old = omega arith in
    (h.0, parsed-next old more trees tree below reads h.1)

pub parsed_more : (old more new : List File) (trees after : List Parsed) (tree : Parsed) (place : ℕ) → length trees ≡ place → new ≡ old ++ more → after ≡ trees ++ tree ∷ []
    → place < length old → IsSpanned (bytes_at place old) (view (bytes_at place old) tree) → AreParsed (take place old) trees → AreParsed (take (suc place) new) after
parsed_more old more new trees after tree place many is_more is_after =
    subst (λ p. p < length old → IsSpanned (bytes_at p old) (view (bytes_at p old) tree) → AreParsed (take p old) trees → AreParsed (take (suc p) new) after) many
    (λ within reads h.
    subst (λ fs. AreParsed (take (suc (length trees)) fs) after) (sym is_more)
    (subst (AreParsed (take (suc (length trees)) (old ++ more))) (sym is_after) (parsed-next old more trees tree within reads h)))

-- every file was looked at
pub all_parsed : (files : List File) (trees : List Parsed) (place : ℕ) → length files ≤ place → AreParsed (take place files) trees → AreParsed files trees
all_parsed files trees place past h = subst (λ fs. AreParsed fs trees) (take_all place files past) h
