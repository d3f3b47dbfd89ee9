-- Elements get other names one after another: each step may be done, and what is there then are the trees with these names in their places.
use Rattle.std.proofs.Common.{◌≡◌, ℕ, zero, suc, List, [], ◌∷◌, ◌++◌, map, refl, sym, ap, ap₂, arith, ◌∙◌}
use Rattle.std.specs.Prelude.{false, ◌&&◌, ◌||◌, slice_set, Some, option_and_then}
use Rattle.std.specs.List.{All}
use Rattle.std.specs.Str.{IsUtf8}
use Rattle.std.proofs.lemmas.Bool.{eq-eqb, ne_eqb}
use Rattle.std.proofs.lemmas.List.Elements.{All-head, All-set, All-tail}
use Rattle.meson_lex.specs.declared.kinds.Span.{Span}
use Rattle.meson_syntax.specs.Paths.{nth}
use Rattle.meson_syntax.specs.Tree.{Expression, Nowhere, Plain}
use Rattle.meson_syntax.proofs.paths.Every.{Every}
use Rattle.meson_edit.specs.Edits.{edited}
use Rattle.meson_calls.specs.Project.{Project, child, place}
use Rattle.meson_steps.specs.ListSteps.{AreDoable, MayStandBetween, none}
use Rattle.meson_steps.specs.Steps.{all_stepped}
use Rattle.meson_steps.specs.WrittenTexts.{string_of}
use Rattle.meson_steps.proofs.StepsDoable.{step_doable, text_written}
use Rattle.meson_steps.proofs.WithOne.{all_nth, change_there}
use Rattle.meson_sources.specs.Effects.{is_one_of, trees_with}
use Rattle.meson_sources.specs.Exchanged.{Chosen, each_with, tree_with, under}
use Rattle.meson_sources.specs.SourceEdits.{Spot, is_path, renaming}
use Rattle.meson_sources.proofs.gone.Named.{every_weaker}
use Rattle.meson_sources.proofs.met.Standing.{StringIn}
use Rattle.meson_sources.proofs.renamed.Nodes.{same_trees}
use Rattle.meson_sources.proofs.renamed.OneString.{OneMore, string_exchanged, string_put}
use Rattle.meson_sources.proofs.renamed.Staying.{string_stays}
use Rattle.meson_followed.specs.CodeRenamings.{written_for}
use Rattle.meson_followed.specs.Effects.{name_at, trees_naming}
use Rattle.meson_followed.specs.FollowedEdits.{Removal}
use Rattle.meson_followed.specs.Renaming.{renamed_steps}

-- ---- one string

only_one : (hp : List ℕ) (g h : Chosen) → ((q : List ℕ) → g q ≡ (is_path hp q || h q)) → OneMore hp g h
only_one [] g h is = is []
only_one (m ∷ path) g h is = (
  sym (is []),
  λ c other i q. (sym (is (c ∷ q) ∙ ap (λ b. (b && is_path path q) || h (c ∷ q)) (ne_eqb m c other))) i,
  only_one path (under m g) (under m h) (λ q. is (m ∷ q) ∙ ap (λ b. (b && is_path path q) || h (m ∷ q)) (eq-eqb m m refl)),
)

in_one_tree : (w : Expression Nowhere) (ts : List Plain) (i : ℕ) (t now : Plain) → nth ts i ≡ Some t → (old new : ℕ → Chosen) → tree_with w (new i) now ≡ tree_with w (old i) t
    → ((j : ℕ) → (i ≡ j → ⊥) → new j ≡ old j) → each_with w new (slice_set ts i now) ≡ each_with w old ts
in_one_tree w [] i t now there old new same others = absurd cc
in_one_tree w (z ∷ ts) zero t now there old new same others =
    let is : z ≡ t = cc in
    ap₂ (λ u us. u ∷ us) (same ∙ ap (tree_with w (old 0)) (sym is)) (ap (λ g. each_with w g ts) (λ i j. (others (suc j) (λ equal. absurd (omega (arith, equal)))) i))
in_one_tree w (z ∷ ts) (suc i) t now there old new same others =
    ap₂ (λ u us. u ∷ us) (ap (λ g. tree_with w g z) (others 0 (λ equal. absurd (omega (arith, equal)))))
    (in_one_tree w ts i t now there (λ n. old (suc n)) (λ n. new (suc n)) same (λ j other. others (suc j) (λ equal. other (omega (arith, equal)))))

-- ---- one after another

module _ (p : Project Span) (n : ℕ) (new : List ℕ) where
  abbrev spots : List Removal → List Spot
  spots rs = map (λ r. r.spot) rs

  -- the steps may be done, and what they make
  pub record AreWritten (rs : List Removal) (trees : List Plain) : Type 0 where
    pub doable : All IsUtf8 (written_for p n new rs) → AreDoable (renamed_steps p n new rs) trees
    pub made : all_stepped (renamed_steps p n new rs) trees ≡ Some (trees_naming p n new rs trees)

  pub are_written : (rs : List Removal) (trees : List Plain) → All MayStandBetween trees → Every (StringIn trees) (spots rs) → AreWritten rs trees
  are_written [] trees all stand = record { doable = λ utf8. none trees; made = refl }
  are_written (r ∷ more) trees all stand =
      let s = r.spot in
      let name = name_at p n new r in
      let w = string_of name in
      let there = stand.0 in
      let file = s.list.file in
      let path = s.list.path.steps in
      let k = s.number in
      let may = all_nth MayStandBetween trees file there.tree all there.is_tree in
      let put = string_put name there.tree path k may there.it there.stands there.is_string in
      let between = slice_set trees file put.now in
      let others = every_weaker (StringIn trees) (StringIn between)
      (λ t h. string_stays trees file there.tree put.now there.is_tree put.kind _ put.text _ (path ++ k ∷ []) put.becomes t h) (spots more) stand.1 in
      let rest = are_written more between (All-set MayStandBetween trees file put.now put.may all) others in
      let now : ℕ → Chosen = λ i q. false in
      let before : ℕ → Chosen = λ i q. is_one_of (child s.list k ∷ []) (place i q) in
      let exchanged = string_exchanged name there.tree path k put (before file) (now file)
      (only_one (path ++ k ∷ []) (before file) (now file) (λ q. ap (λ b. (b && is_path (path ++ k ∷ []) q) || false) (eq-eqb file file refl))) in
      let elsewhere : (j : ℕ) → (file ≡ j → ⊥) → now j ≡ before j =
      λ j other i q. (sym (ap (λ b. (b && is_path (path ++ k ∷ []) q) || false) (ne_eqb file j other))) i in
      let same : between ≡ trees_with w (child s.list k ∷ []) trees =
      sym (same_trees w between) ∙ in_one_tree w trees file there.tree put.now there.is_tree before now exchanged elsewhere in
      record {
        doable = λ utf8.
            step_doable (renaming name s) (renamed_steps p n new more) trees there.tree put.now there.is_tree put.is_now
            (text_written name (All-head IsUtf8 name (written_for p n new more) utf8)) all put.may
            (rest.doable (All-tail IsUtf8 name (written_for p n new more) utf8));
        made =
            ap (option_and_then (all_stepped (renamed_steps p n new more))) (change_there (edited (renaming name s).edit) trees file there.tree put.now there.is_tree put.is_now)
            ∙ rest.made ∙ ap (λ ts. Some (trees_naming p n new more ts)) same;
      }
