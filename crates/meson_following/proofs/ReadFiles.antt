-- The files of a project, as the walk comes to them.
use Rattle.std.proofs.Common.{◌≡◌, ℕ, zero, suc, ◌-◌, ◌<◌, ◌≤◌, List, length, [], ◌∷◌, get_or, refl, sym, ap, subst, ◌∙◌, arith}
use Rattle.std.specs.Prelude.{Option, Some, None}
use Rattle.meson_syntax.proofs.parsing.Steps.{some-injective}
use Rattle.meson_lex.specs.Significant.{Word}
use Rattle.meson_lex.specs.declared.kinds.Span.{Span}
use Rattle.meson_splice.specs.declared.file_set.File.{File}
use Rattle.meson_splice.specs.Files.{bytes_at, position_of_file}
use Rattle.meson_syntax.specs.declared.tree.Parsed.{Parsed}
use Rattle.meson_syntax.specs.Grammar.{block_words, file_words}
use Rattle.meson_syntax.specs.Reads.{IsSpanned}
use Rattle.meson_syntax.specs.Tree.{erase}
use Rattle.meson_syntax.specs.View.{block_view, view}
use Rattle.meson_syntax.proofs.parsing.FileErased.{file-words-erased}
use Rattle.meson_calls.specs.Folders.{IsFileName, build_file}
use Rattle.meson_calls.specs.Strings.{AreGood}
use Rattle.meson_calls.specs.Loading.{IsProject, loaded_from, name_of_file, named_trees, views}
use Rattle.meson_calls.specs.Project.{BuildFile, Project, nth_file, place}
use Rattle.meson_calls.proofs.CallsAt.{spanned_at}
use Rattle.meson_calls.proofs.GoodTexts.{text_good}
use Rattle.meson_calls.proofs.Loads.{as_many}
use Rattle.meson_calls.proofs.Standing.{nth_past, nth_there}
use Rattle.meson_calls.proofs.WordCounts.{file_few}
use Rattle.meson_following.specs.declared.walk.Question.{Question}
use Rattle.meson_following.specs.Flows.{Flow, flow_block, flow_found, flow_from, flow_project, flow_tree, going_on}
use Rattle.meson_following.specs.Effects.{effect_of}
use Rattle.meson_following.specs.Makers.{Known, touched}
use Rattle.meson_following.specs.Walks.{AreRead, file_flow, project_of}
use Rattle.meson_following.proofs.Entering.{number_is}
use Rattle.meson_following.proofs.Measures.{all_words}

words_among : (p : Project Span) (n : ℕ) (f : BuildFile Span) → nth_file p n ≡ Some f → length (file_words f.tree) ≤ all_words p
words_among [] n f is = absurd (let no : ⊥ = cc in no)
words_among (g ∷ p) zero f is = omega (arith, ap (λ h. length (file_words h.tree)) (some-injective g f is))
words_among (g ∷ p) (suc n) f is = omega (arith, words_among p n f is)

name_is : (files : List File) (n : ℕ) (e : File) → n < length files → name_of_file n files ≡ (get_or files n e).name
name_is [] n e lt = absurd (omega arith)
name_is (f ∷ files) zero e lt = refl
name_is (f ∷ files) (suc n) e lt =
    let below : n < length files = omega arith in
    name_is files n e below

files_many : (files : List File) (trees : List Parsed) → length trees ≡ length files → length (named_trees files (views files trees)) ≡ length trees
files_many [] [] same = refl
files_many [] (t ∷ trees) same = absurd (omega (arith, same))
files_many (f ∷ files) [] same = refl
files_many (f ∷ files) (t ∷ trees) same =
    let rest : length trees ≡ length files = omega (arith, same) in
    ap suc (files_many files trees rest)

module _ (q : Question) where
  -- where the walk begins
  pub root_flow : (root : Option ℕ) → IsProject (loaded_from q.files.now q.trees.now) → position_of_file build_file q.files.now ≡ root → flow_from (project_of q) q.variable.now root ≡ flow_project (project_of q) q.variable.now
  root_flow root is_project is = ap (flow_from (project_of q) q.variable.now) (sym (number_is q.files.now q.trees.now build_file is_project.parsed ∙ is))

  pub from_root : (root : ℕ) → IsProject (loaded_from q.files.now q.trees.now) → file_flow q (length q.trees.now) root None ≡ flow_from (project_of q) q.variable.now (Some root)
  from_root root is_project =
      ap (λ n. file_flow q n root None) (sym (files_many q.files.now q.trees.now (as_many q.files.now q.trees.now is_project.parsed)))

  -- no file has the number, or none may be inside another any more
  pub no_file_left : (n : ℕ) (k : Known Span) → going_on (touched k) ≡ file_flow q 0 n k
  no_file_left n k = refl

  pub past_files : (left n : ℕ) (k : Known Span) → length q.trees.now ≤ n → going_on (touched k) ≡ file_flow q left n k
  past_files zero n k past = refl
  past_files (suc left) n k past =
      sym (ap (λ o. flow_found (λ f. flow_tree q.variable.now (effect_of (project_of q) q.variable.now f) (file_flow q left) n f.tree) o k) (nth_past q.files.now q.trees.now n past))

  pub within_files : (n : ℕ) → n < length q.trees.now → IsProject (loaded_from q.files.now q.trees.now) → n < length q.files.now
  within_files n lt is_project =
      let many = as_many q.files.now q.trees.now is_project.parsed in
      omega (arith, many)

  module _ (n : ℕ) (d : Parsed) (lt : n < length q.trees.now) (is_project : IsProject (loaded_from q.files.now q.trees.now)) where
    abbrev bytes : List ℕ
    bytes = bytes_at n q.files.now

    abbrev tree : Parsed
    tree = get_or q.trees.now n d

    many : length q.trees.now ≡ length q.files.now
    many = as_many q.files.now q.trees.now is_project.parsed

    abbrev the_file : BuildFile Span
    the_file = record { name = name_of_file n q.files.now; tree = view bytes tree }

    there : nth_file (project_of q) n ≡ Some the_file
    there = nth_there q.files.now q.trees.now n d many lt

    pub file_is : (left : ℕ) (k : Known Span)
        → flow_tree q.variable.now (effect_of (project_of q) q.variable.now the_file) (file_flow q left) n (view bytes tree) k ≡ file_flow q (suc left) n k
    file_is left k =
        sym (ap (λ o. flow_found (λ f. flow_tree q.variable.now (effect_of (project_of q) q.variable.now f) (file_flow q left) n f.tree) o k) there)

    pub file_within : length (file_words (view bytes tree)) ≤ all_words (project_of q)
    file_within = words_among (project_of q) n the_file there

    pub file_read : AreRead (file_words (view bytes tree))
    file_read =
        let spanned = spanned_at q.files.now q.trees.now n d lt is_project.parsed in
        record {
          good = subst AreGood (file-words-erased (view bytes tree)) (text_good bytes (erase (view bytes tree)) spanned.reads.spells);
          fits = file_few bytes tree spanned;
        }

    pub file_named : (name : List ℕ) → ((e : File) → name ≡ (get_or q.files.now n e).name) → (name ≡ name_of_file n q.files.now) × IsFileName name
    file_named name is =
        let e : File = record { name = []; bytes = [] } in
        (is e ∙ sym (name_is q.files.now n e (within_files n lt is_project)), subst IsFileName (sym (is e)) (is_project.named n e (within_files n lt is_project)))

    -- the block of the file, by its bytes and its tree as they are read
    block_part : (b : List ℕ) (t : Parsed) → b ≡ bytes → t ≡ tree → (P : List Word → Type 0) → P (file_words (view bytes tree)) → P (block_words (block_view b t.block))
    block_part b t same is P p = subst (λ x. P (block_words (block_view x t.block))) (sym same) (subst (λ u. P (block_words (block_view bytes u.block))) (sym is) p)

    pub block_read : (b : List ℕ) (t : Parsed) → b ≡ bytes → t ≡ tree → AreRead (block_words (block_view b t.block))
    block_read b t same is = block_part b t same is AreRead file_read

    pub block_within : (b : List ℕ) (t : Parsed) → b ≡ bytes → t ≡ tree → length (block_words (block_view b t.block)) ≤ all_words (project_of q)
    block_within b t same is = block_part b t same is (λ ws. length ws ≤ all_words (project_of q)) file_within

    -- the same of the file
    abbrev file_by : List ℕ → List ℕ → Parsed → BuildFile Span
    file_by name b t = record { name = name; tree = view b t }

    abbrev flow_by : ℕ → BuildFile Span → List ℕ → List ℕ → Parsed → Known Span → Flow Span
    flow_by left f path b t = flow_block q.variable.now (effect_of (project_of q) q.variable.now f) (file_flow q left) (place n path) (block_view b t.block)

    pub file_walked : (left : ℕ) (b : List ℕ) (t : Parsed) (name path : List ℕ) (k : Known Span) → 0 < left → b ≡ bytes → t ≡ tree → name ≡ name_of_file n q.files.now → path ≡ []
        → flow_by (left - 1) (file_by name b t) path b t k ≡ file_flow q left n k
    file_walked zero b t name path k some same is named empty = absurd (omega arith)
    file_walked (suc left) b t name path k some same is named empty =
        let one : suc left - 1 ≡ left = omega arith in
        ap (λ m. flow_by m (file_by name b t) path b t k) one
        ∙ ap (λ x. flow_by left (file_by x b t) path b t k) named
        ∙ ap (λ x. flow_by left (file_by (name_of_file n q.files.now) b t) x b t k) empty
        ∙ ap (λ x. flow_by left (file_by (name_of_file n q.files.now) x t) [] x t k) same
        ∙ ap (λ u. flow_by left (file_by (name_of_file n q.files.now) bytes u) [] bytes u k) is
        ∙ file_is left k

    -- it is what its bytes are read as
    pub spanned_by : (b : List ℕ) (t : Parsed) → b ≡ bytes → t ≡ tree → IsSpanned b (view b t)
    spanned_by b t same is =
        subst (λ x. IsSpanned x (view x t)) (sym same) (subst (λ u. IsSpanned bytes (view bytes u)) (sym is) (spanned_at q.files.now q.trees.now n d lt is_project.parsed))
