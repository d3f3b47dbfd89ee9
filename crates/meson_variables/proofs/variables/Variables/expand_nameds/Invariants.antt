use Rattle.meson_variables.proofs.Words.{◌≡◌, drop, value_with_name, kept_args, place, project_of, arguments_by, fixed, gathered, expanded}
use Rattle.meson_variables.proofs.variables.Variables.expand_nameds.Given as goal

abbrev pub invariant-loop-i : goal.invariant-loop-i
invariant-loop-i l =
    (l.path.items ≡ l.fn.path.items)
    × (expanded (gathered l.marks) (arguments_by (project_of l.self) l.left (place l.site.file l.fn.path.items) (λ n. fixed) (kept_args l.site.source.now (value_with_name l.key) l.i (drop l.i l.args)))
    ≡ expanded (gathered l.fn.marks) (arguments_by (project_of l.self) l.left (place l.site.file l.fn.path.items) (λ n. fixed) (kept_args l.site.source.now (value_with_name l.key) 0 l.args)))
