-- An evaluation of a project makes what it made, without the literals that are left out of lists.
use Rattle.std.proofs.Common.{◌≡◌, ℕ, zero, suc, length, Option, Some, None, refl, ap, ◌∙◌}
use Rattle.std.specs.Prelude.{Bool, option_map}
use Rattle.meson_calls.specs.Folders.{build_file}
use Rattle.meson_calls.specs.Project.{BuildFile, Project, nth_file}
use Rattle.meson_following.specs.Effects.{number_of}
use Rattle.meson_meaning.specs.Laws.{AreMissing, MeansTheSame, NameNoFolders}
use Rattle.meson_meaning.specs.Running.{entered_by, run, run_file, run_found, run_from, run_tree}
use Rattle.meson_meaning.specs.States.{Choices, Going, beginning, on, out_of_file, out_of_turn, state_after, stops}
use Rattle.meson_meaning.specs.Without.{file_without, project_without, state_without}
use Rattle.meson_meaning.proofs.Alongs.{going_without, same_along}
use Rattle.meson_meaning.proofs.StatementsAlong.{Does, any_touched, tree_along}
use Rattle.meson_meaning.proofs.SubdirsAlong.{entered_same, length_stays, nth_stays, number_stays}

module _ {S T : Type 0} (to : S → T) (gone : S → Bool) (p : Project S) (folders : NameNoFolders to gone p) (ch : Choices) where
  abbrev smaller : Project T
  smaller = project_without to gone p

  found_along : (n left : ℕ) → ((k : ℕ) → Does to gone ch (run_file ch smaller left k) (run_file ch p left k)) → (o : Option (BuildFile S)) → nth_file p n ≡ o
      → Does to gone ch (run_found ch (λ f. run_tree ch n (entered_by smaller f) (run_file ch smaller left) f.tree) (option_map (file_without to gone) o))
      (run_found ch (λ f. run_tree ch n (entered_by p f) (run_file ch p left) f.tree) o)
  found_along n left below None is = any_touched to gone ch
  found_along n left below (Some f) is =
      tree_along to gone ch (run_file ch smaller left) (run_file ch p left) below n (entered_by smaller (file_without to gone f)) (entered_by p f) (MeansTheSame to gone f)
      (λ q c another means. entered_same to gone p f q c another means) f.tree (folders n f is)

  file_along : (left n : ℕ) → Does to gone ch (run_file ch smaller left n) (run_file ch p left n)
  file_along zero n = any_touched to gone ch
  file_along (suc left) n =
      same_along to gone (ap (run_found ch (λ f. run_tree ch n (entered_by smaller f) (run_file ch smaller left) f.tree)) (nth_stays to gone p n))
      (found_along n left (λ k. file_along left k) (nth_file p n) refl)

  from_along : (o : Option ℕ) → run_from ch smaller o ≡ going_without to gone (λ x. x) (run_from ch p o)
  from_along None = refl
  from_along (Some n) = ap (λ left. run_file ch smaller left n beginning) (length_stays to gone p) ∙ (file_along (length p) n).at_state beginning

  after_along : (m : Going S (Unit {0})) → state_after (going_without to gone (λ x. x) m) ≡ state_without to gone (state_after m)
  after_along (on x st) = refl
  after_along (out_of_turn ended st) = refl
  after_along (out_of_file st) = refl
  after_along (stops st) = refl

  pub run_along : run ch smaller ≡ state_without to gone (run ch p)
  run_along =
      ap (λ o. state_after (run_from ch smaller o)) (number_stays to gone p build_file) ∙ ap state_after (from_along (number_of p build_file))
      ∙ after_along (run_from ch p (number_of p build_file))

  pub are_missing : AreMissing to gone (run ch p) (run ch smaller)
  are_missing = record { made = ap (λ st. st.made) run_along; used = ap (λ st. st.used) run_along }
