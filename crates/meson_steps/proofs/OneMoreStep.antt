-- One more step behind those that are done.
use Rattle.meson_steps.proofs.Words.{◌≡◌, ℕ, ◌+◌, List, [], ◌∷◌, ◌++◌, refl, sym, ap, ◌∙◌, subst, arith, Option, Some, None, Ok, option_and_then, append_assoc}
use Rattle.meson_steps.proofs.Words.{bytes_at, patched_all, File, Splice, Plain, saturated, Step, Laid, StepsMake, none, step, all_stepped, stepped, read_again}
use Rattle.std.proofs.Common.{append-nil}

-- ---- trees

after_first : (steps more : List Step) (o : Option (List Plain)) → ((trees : List Plain) → all_stepped (steps ++ more) trees ≡ option_and_then (all_stepped more) (all_stepped steps trees))
    → option_and_then (all_stepped (steps ++ more)) o ≡ option_and_then (all_stepped more) (option_and_then (all_stepped steps) o)
after_first steps more (Some next) later = later next
after_first steps more None later = refl

pub all_after : (steps more : List Step) (trees : List Plain) → all_stepped (steps ++ more) trees ≡ option_and_then (all_stepped more) (all_stepped steps trees)
all_after [] more trees = refl
all_after (s ∷ steps) more trees = after_first steps more (stepped s trees) (λ next. all_after steps more next)

pub stepped_more : (steps : List Step) (s : Step) (trees between last : List Plain) → all_stepped steps trees ≡ Some between → stepped s between ≡ Some last → all_stepped (steps ++ s ∷ []) trees ≡ Some last
stepped_more steps s trees between last is next = all_after steps (s ∷ []) trees ∙ ap (option_and_then (all_stepped (s ∷ []))) is ∙ ap (option_and_then (all_stepped [])) next

-- ---- files

pub steps_more : (files between last : List File) (steps : List Step) (s : Step) (splices here : List Splice) (bytes : ℕ) → StepsMake files steps splices between bytes
    → (laid : Laid between s here) → patched_all between here ≡ Ok last
    → StepsMake files (steps ++ s ∷ []) (splices ++ here) last (bytes + read_again s.edit laid.file here (bytes_at s.file between) (bytes_at s.file last))
steps_more files between last steps s splices here bytes (none fs) laid done =
    let r = read_again s.edit laid.file here (bytes_at s.file fs) (bytes_at s.file last) in
    let n : r + 0 ≡ 0 + r = omega arith in
    subst (StepsMake fs (s ∷ []) here last) n (subst (λ l. StepsMake fs (s ∷ []) l last (r + 0)) (simp append-nil) (step fs last last s [] here [] 0 laid done (none last)))
steps_more files between last steps s splices here bytes (step fs next end t more now later count first_laid first_done rest) laid done =
    let m = read_again t.edit first_laid.file now (bytes_at t.file fs) (bytes_at t.file next) in
    let r = read_again s.edit laid.file here (bytes_at s.file between) (bytes_at s.file last) in
    let n : m + (count + r) ≡ m + count + r = omega arith in
    subst (StepsMake fs (t ∷ (more ++ s ∷ [])) ((now ++ later) ++ here) last) n
    (subst (λ l. StepsMake fs (t ∷ (more ++ s ∷ [])) l last (m + (count + r))) (sym (append_assoc now later here))
    (step fs next last t (more ++ s ∷ []) now (later ++ here) (count + r) first_laid first_done (steps_more next between last more s later here count rest laid done)))

pub saturated_more : (a n : ℕ) → saturated (saturated a + n) ≡ saturated (a + n)
saturated_more a n = omega arith
