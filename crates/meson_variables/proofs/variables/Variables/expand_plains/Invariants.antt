use Rattle.meson_variables.proofs.Words.{◌≡◌, drop, value_without_name, kept_args, place, project_of, arguments_by, in_list, gathered, expanded}
use Rattle.meson_variables.proofs.variables.Variables.expand_plains.Given as goal

abbrev pub invariant-loop-i : goal.invariant-loop-i
invariant-loop-i l =
    (l.path.items ≡ l.fn.path.items)
    × (expanded (gathered l.marks) (arguments_by (project_of l.self) l.left (place l.site.file l.fn.path.items) (in_list (place l.site.file l.fn.path.items)) (kept_args l.site.source.now value_without_name l.i (drop l.i l.args)))
    ≡ expanded (gathered l.fn.marks) (arguments_by (project_of l.self) l.left (place l.site.file l.fn.path.items) (in_list (place l.site.file l.fn.path.items)) (kept_args l.site.source.now value_without_name l.from (drop l.from l.args))))
