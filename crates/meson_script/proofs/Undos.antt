-- Undos of a session, one after another.
use Rattle.std.proofs.Common.{◌≡◌, ◌<◌, ℕ, zero, suc, ◌+◌, List, [], ◌∷◌, ◌++◌, length, true, Option, Some, None, Result, Ok, Err, refl, sym, ap, ◌∙◌, subst, arith}
use Rattle.std.specs.List.{sum_by}
use Rattle.std.specs.Prelude.{option_and_then, reverse}
use Rattle.std.proofs.lemmas.List.{append_assoc, append-nil}
use Rattle.std.proofs.lemmas.List.Sums.{sum_by-cons}
use Rattle.meson_splice.specs.declared.change.Change.{Change}
use Rattle.meson_splice.specs.declared.fault.SpliceFault.{SpliceFault}
use Rattle.meson_splice.specs.declared.fault.SpliceFault.TheVariants.{NothingToUndo, OutOfMemory}
use Rattle.meson_splice.specs.declared.file_set.File.{File}
use Rattle.meson_splice.specs.declared.history.History.{History}
use Rattle.meson_splice.specs.declared.splice.Splice.{Splice as ASplice}
use Rattle.meson_splice.specs.Past.{undone, undone_from, undone_times}
use Rattle.meson_splice.specs.Patch.{inverses_of, patched_all, then_ok}
use Rattle.meson_splice.proofs.Times.{undone-more, undone-past}
use Rattle.meson_json.specs.Log.{is_text_history}
use Rattle.meson_steps.specs.ResultLimits.{saturated}
use Rattle.meson_script.specs.declared.fault.UndoFault.{UndoFault}
use Rattle.meson_script.specs.declared.fault.UndoFault.TheVariants.{Splice}
use Rattle.meson_script.specs.declared.session.Report.{Report}
use Rattle.meson_script.specs.declared.session.Session.{Session}
use Rattle.meson_script.specs.Laws.{UndosAreSteps}
use Rattle.meson_script.specs.Stack.{RefusesUndo, RefusesUndos, Stack, Stands, taken_back, undos}
use Rattle.meson_script.specs.Undoing.{MayNotStep, Steps, StopsBack, oldest_title}
use Rattle.meson_script.proofs.RunFacts.{change-names, names}
use Rattle.meson_script.proofs.StackFacts.{undo-is-a-step}

abbrev pub total : List Change → ℕ
total changes = sum_by (λ c. length c.splices) changes

-- So many undos went before, and this many splices and this title are what is told of them.
pub record AreBack (many : ℕ) (old : Session) (splices : ℕ) (title : List ℕ) (now : Session) : Type 0 where
  pub taken : List Change
  pub are_last : old.history.past ≡ now.history.past ++ taken
  pub as_many : length taken ≡ many
  pub are_steps : undone_times many old.history old.project.files ≡ Ok (now.history, now.project.files)
  pub counted : splices ≡ saturated (total taken)
  pub titled : title ≡ oldest_title taken
  pub text : is_text_history old.history ≡ true → is_text_history now.history ≡ true
  pub step : (s : Stack) → Stands old.history old.project.files s → (t : Stack) × (undos many s ≡ Some t) × Stands now.history now.project.files t

pub none-back : (old : Session) (title : List ℕ) → title ≡ [] → AreBack 0 old 0 title old
none-back old title untitled = record {
  taken = [];
  are_last = sym (append-nil old.history.past);
  as_many = refl;
  are_steps = refl;
  counted = let none : 0 ≡ saturated 0 = omega arith in none;
  titled = untitled;
  text = λ t. t;
  step = λ s stands. (s, refl, stands);
}

-- ---- names stay

abbrev Patched : Type 0
Patched = Result (List File) SpliceFault

abbrev Stepped : Type 0
Stepped = Result (History × List File) SpliceFault

abbrev files-of : Stepped → List File
files-of (Ok s) = s.1
files-of (Err e) = []

not-done : (e : SpliceFault) (s : History × List File) → ◌≡◌ {A = Stepped} (Err e) (Ok s) → ⊥
not-done e s is = cc

one-names : (splices : List ASplice) (files after : List File) (h k : History) (r : Patched) → patched_all files splices ≡ r
    → then_ok r (λ fs. let s : Stepped = Ok (h, fs) in s) ≡ Ok (k, after) → names files ≡ names after
one-names splices files after h k (Ok more) so is = change-names files splices more so ∙ ap names (ap files-of is)
one-names splices files after h k (Err e) so is = absurd (not-done e (k, after) is)

from-names : (changes future : List Change) (files : List File) (k : History) (after : List File) → undone_from changes future files ≡ Ok (k, after) → names files ≡ names after
from-names [] future files k after is = absurd (not-done NothingToUndo (k, after) is)
from-names (c ∷ older) future files k after is =
    one-names (inverses_of c.splices) files after (record { past = reverse older; future = future ++ c ∷ [] }) k (patched_all files (inverses_of c.splices)) refl is

last-of : (r : Stepped) (s : History × List File) → then_ok r (λ m. undone m.0 m.1) ≡ Ok s → (m : History × List File) × (r ≡ Ok m) × (undone m.0 m.1 ≡ Ok s)
last-of (Ok m) s is = (m, refl, is)
last-of (Err e) s is = absurd (not-done e s is)

pub times-names : (many : ℕ) (h k : History) (files after : List File) → undone_times many h files ≡ Ok (k, after) → names files ≡ names after
times-names zero h k files after is = ap names (ap files-of is)
times-names (suc many) h k files after is =
    let l = last-of (undone_times many h files) (k, after) is in
    times-names many h l.0.0 files l.0.1 l.1 ∙ from-names (reverse l.0.0.past) l.0.0.future l.0.1 k after l.2

-- ---- one more

one_more_counted : (splices more sum : ℕ) → splices ≡ saturated sum → saturated (splices + more) ≡ saturated (more + sum)
one_more_counted splices more sum is = omega (arith, is)

step_more : (many : ℕ) (old now next : Session) (report : Report) (s : Stack)
    → ((r : Stack) → Stands now.history now.project.files r → (t : Stack) × (taken_back r ≡ Some t) × Stands next.history next.project.files t)
    → (t : Stack) × (undos many s ≡ Some t) × Stands now.history now.project.files t → (t : Stack) × (undos (suc many) s ≡ Some t) × Stands next.history next.project.files t
step_more many old now next report s further (r, so_far, stands) = let last = further r stands in (last.0, ap (option_and_then taken_back) so_far ∙ last.1, last.2)

pub one-more-back : (many : ℕ) (old now next : Session) (splices all : ℕ) (title told : List ℕ) (report : Report) → AreBack many old splices title now
    → Steps now now.history.past (undone now.history now.project.files) report next
    → ((r : Stack) → Stands now.history now.project.files r → (t : Stack) × (taken_back r ≡ Some t) × Stands next.history next.project.files t)
    → (is_text_history now.history ≡ true → is_text_history next.history ≡ true)
    → all ≡ saturated (splices + report.splices) → told ≡ report.title → AreBack (many + 1) old all told next
one-more-back many old now next splices all title told report b s further text are is_title =
    let plus : suc many ≡ many + 1 = omega arith in
    let left : next.history.past ≡ s.before = undone-past s.before s.change now.history next.history now.project.files next.project.files s.is_last s.is_step in
    record {
      taken = s.change ∷ b.taken;
      are_last = b.are_last ∙ ap (λ cs. cs ++ b.taken) s.is_last ∙ append_assoc s.before (s.change ∷ []) b.taken ∙ ap (λ cs. cs ++ s.change ∷ b.taken) (sym left);
      as_many = ap suc b.as_many ∙ plus;
      are_steps = subst (λ n. undone_times n old.history old.project.files ≡ Ok (next.history, next.project.files)) plus (undone-more many old.history now.history next.history old.project.files now.project.files next.project.files b.are_steps s.is_step);
      counted = are ∙ one_more_counted splices report.splices (total b.taken) b.counted ∙ ap (λ n. saturated (n + total b.taken)) s.splices
          ∙ ap saturated (sym (sum_by-cons (λ c. length c.splices) s.change b.taken));
      titled = is_title ∙ s.title;
      text = λ t. text (b.text t);
      step = λ r stands. subst (λ n. (t : Stack) × (undos n r ≡ Some t) × Stands next.history next.project.files t) plus (step_more many old now next report r further (b.step r stands));
    }

-- ---- an undo that is refused

pub stops-back : (count many : ℕ) (old now : Session) (splices : ℕ) (title : List ℕ) (fault : UndoFault) → AreBack many old splices title now → many < count
    → MayNotStep (undone now.history now.project.files) fault → StopsBack count old fault now
stops-back count many old now splices title fault b fewer refused = record { done = many; fewer = λ _. fewer; are_done = b.are_steps; refused = refused }

pub stack-stops : (count many : ℕ) (old now : Session) (splices : ℕ) (title : List ℕ) (fault : UndoFault) → AreBack many old splices title now → many < count
    → ((s : Stack) → Stands now.history now.project.files s → RefusesUndo s fault) → (s : Stack) → Stands old.history old.project.files s → RefusesUndos count s fault
stack-stops count many old now splices title fault b fewer refuses s stands = let t = b.step s stands in (many, t.0, λ _. fewer, t.1, refuses t.0 t.2)

-- memory is refused before the first
pub no-memory-back : (count : ℕ) (old : Session) (fault : UndoFault) → fault ≡ Splice OutOfMemory → StopsBack count old fault old
no-memory-back count old fault is = record {
  done = 0;
  fewer = λ other. absurd (other is);
  are_done = refl;
  refused = subst (MayNotStep (undone old.history old.project.files)) (sym is) (λ other. absurd (other refl));
}

pub no-memory-stops : (count : ℕ) (s : Stack) (fault : UndoFault) → fault ≡ Splice OutOfMemory → RefusesUndos count s fault
no-memory-stops count s fault is = (0, s, (λ other. absurd (other is)), refl, subst (RefusesUndo s) (sym is) (λ other. absurd (other refl)))

-- ---- of a history that fits

none_before : (o : Option Stack) (t : Stack) → option_and_then taken_back o ≡ Some t → (r : Stack) × (o ≡ Some r) × (taken_back r ≡ Some t)
none_before (Some r) t is = (r, refl, is)
none_before None t is = absurd (let bad : ⊥ = cc in bad)

pub undos-are-steps : UndosAreSteps
undos-are-steps zero h files s t stands is =
    let same : s ≡ t = cc in
    (h, ap (λ fs. let r : Result (History × List File) SpliceFault = Ok (h, fs) in r) (sym stands.present ∙ ap (λ x. x.present) same), subst (λ fs. Stands h fs t) (sym stands.present ∙ ap (λ x. x.present) same) (subst (Stands h files) same stands))
undos-are-steps (suc count) h files s t stands is =
    let before = none_before (undos count s) t is in
    let r = before.0 in
    let all = undos-are-steps count h files s r stands before.1 in
    let last = undo-is-a-step all.0 r.present r t all.2 before.2 in
    (last.0, undone-more count h all.0 last.0 files r.present t.present all.1 last.1, last.2)
