use Rattle.std.proofs.Common.{ap}
use Rattle.std.proofs.lemmas.Result.{err_from_is_err_and}
use Rattle.meson_json.specs.Scripts.{script_of}
use Rattle.meson_json.proofs.script.Script.from_json_with.Goals as goal

pub returns-in_err-value-clause-refused : goal.returns-in_err-value-clause-refused
unfolding script_of
returns-in_err-value-clause-refused c =
    let p = err_from_is_err_and c.from_residual.result c.from_residual.ensures.1 in
    rw p.1 (λ n. let why = p.2.1 n in rw why.1 (ap (script_of c.args.unknown) (c.in_err-value.ensures.err why.0)))
