-- A command has one outcome: its steps are one list or one refusal, and steps make one thing of files and trees.
use Rattle.std.proofs.Common.{◌≡◌, List, Some, Result, Ok, Err, refl, sym, ap, ap₂, ◌∙◌, subst}
use Rattle.meson_splice.specs.declared.change.Change.{Change}
use Rattle.meson_syntax.specs.Tree.{Plain}
use Rattle.meson_calls.specs.declared.refusal.Refusal.{Refusal}
use Rattle.meson_calls.specs.Loading.{Loaded}
use Rattle.meson_steps.specs.declared.command.Command.{Command}
use Rattle.meson_steps.specs.declared.command.Done.{Done}
use Rattle.meson_steps.specs.ResultLimits.{AreShallow, AreSmall, plain_trees, saturated}
use Rattle.meson_steps.specs.Steps.{Step, StepsMake, all_stepped}
use Rattle.meson_steps.proofs.OneMaking.{one-making}
use Rattle.meson_plan.specs.Planning.{Means}
use Rattle.meson_plan.proofs.OneMeaning.{means-one}
use Rattle.meson_plan.specs.Performing.{Makes, unplanned, deep, large}
use Rattle.meson_script.specs.Outcomes.{NotRefused, OneOutcome, OneRefusal}

abbrev Planned : Type 0
Planned = Result (List Step) Refusal

same_steps : (l : Loaded) (c : Command) (s t : List Step) → Means l c (Ok s) → Means l c (Ok t) → s ≡ t
same_steps l c s t p q = let both : ◌≡◌ {A = Planned} (Ok s) (Ok t) = means-one l c (Ok s) (Ok t) p q in cc

not_both : (l : Loaded) (c : Command) (s : List Step) (e : Refusal) → Means l c (Ok s) → Means l c (Err e) → ⊥
not_both l c s e p q = let both : ◌≡◌ {A = Planned} (Ok s) (Err e) = means-one l c (Ok s) (Err e) p q in let bad : ⊥ = cc in bad

same_refusal : (l : Loaded) (c : Command) (e f : Refusal) → Means l c (Err e) → Means l c (Err f) → e ≡ f
same_refusal l c e f p q = let both : ◌≡◌ {A = Planned} (Err e) (Err f) = means-one l c (Err e) (Err f) p q in cc

same_trees : (steps more : List Step) (trees s t : List Plain) → steps ≡ more → all_stepped steps trees ≡ Some s → all_stepped more trees ≡ Some t → s ≡ t
same_trees steps more trees s t same p q = let both : Some s ≡ Some t = sym p ∙ ap (λ x. all_stepped x trees) same ∙ q in cc

-- what a command makes is one
record Alike {old : Loaded} {c : Command} (m n : Makes old c) : Type 0 where
  steps : m.steps ≡ n.steps
  trees : m.trees ≡ n.trees
  splices : m.splices ≡ n.splices
  files : m.files ≡ n.files
  bytes : m.bytes ≡ n.bytes

alike : (old : Loaded) (c : Command) (m n : Makes old c) → Alike m n
alike old c m n =
    let steps = same_steps old c m.steps n.steps m.are_planned n.are_planned in
    let made = one-making old.files m.steps m.splices n.splices m.files n.files m.bytes n.bytes m.are_done (subst (λ s. StepsMake old.files s n.splices n.files n.bytes) (sym steps) n.are_done) in
    record {
      steps = steps;
      trees = same_trees m.steps n.steps (plain_trees old) m.trees n.trees steps m.are_trees n.are_trees;
      splices = made.0;
      files = made.1;
      bytes = made.2;
    }

pub one-outcome : OneOutcome
one-outcome old c done other new next p q =
    let a = alike old c p.made q.made in
    let splices : done.change.splices ≡ other.change.splices = p.is_change ∙ a.splices ∙ sym q.is_change in
    let title : done.change.title ≡ other.change.title = p.is_untitled ∙ sym q.is_untitled in
    let change : done.change ≡ other.change = ap₂ (λ ss t. let c : Change = record { splices = ss; title = t } in c) splices title in
    let relexed : done.relexed ≡ other.relexed = p.is_relexed ∙ ap saturated a.bytes ∙ sym q.is_relexed in (
      ap₂ (λ c n. let d : Done = record { change = c; relexed = n } in d) change relexed,
      p.are_files ∙ a.files ∙ sym q.are_files,
      p.are_trees ∙ a.trees ∙ sym q.are_trees,
    )

pub not-refused : NotRefused
not-refused old c done new e p (unplanned f is) = not_both old c p.made.steps e p.made.are_planned is
not-refused old c done new e p (deep steps trees is stepped high) =
    let same = same_steps old c p.made.steps steps p.made.are_planned is in
    high (subst AreShallow (same_trees p.made.steps steps (plain_trees old) p.made.trees trees same p.made.are_trees stepped) p.shallow)
not-refused old c done new e p (large made shallow wide) = wide (subst AreSmall (alike old c p.made made).files p.small)

pub one-refusal : OneRefusal
one-refusal old c e f (unplanned g is) (unplanned h other) = same_refusal old c e f is other
one-refusal old c e f (unplanned g is) (deep steps trees ok stepped high) = absurd (not_both old c steps e ok is)
one-refusal old c e f (unplanned g is) (large made shallow wide) = absurd (not_both old c made.steps e made.are_planned is)
one-refusal old c e f (deep steps trees ok stepped high) (unplanned h other) = absurd (not_both old c steps f ok other)
one-refusal old c e f (deep steps trees ok stepped high) (deep more others okay through higher) = refl
one-refusal old c e f (deep steps trees ok stepped high) (large made shallow wide) =
    let same = same_steps old c made.steps steps made.are_planned ok in
    absurd (high (subst AreShallow (same_trees made.steps steps (plain_trees old) made.trees trees same made.are_trees stepped) shallow))
one-refusal old c e f (large made shallow wide) (unplanned h other) = absurd (not_both old c made.steps f made.are_planned other)
one-refusal old c e f (large made shallow wide) (deep steps trees ok stepped high) =
    let same = same_steps old c made.steps steps made.are_planned ok in
    absurd (high (subst AreShallow (same_trees made.steps steps (plain_trees old) made.trees trees same made.are_trees stepped) shallow))
one-refusal old c e f (large made shallow wide) (large more low broad) = refl
