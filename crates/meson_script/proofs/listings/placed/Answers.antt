use Rattle.std.proofs.lemmas.Result.{err_from_is_err_and}
use Rattle.meson_script.proofs.PlacedListings.{no-info}
use Rattle.meson_script.proofs.listings.placed.Goals as goal

pub returns-in_err-listing-clause-memory : goal.returns-in_err-listing-clause-memory
returns-in_err-listing-clause-memory c =
    let error = err_from_is_err_and c.from_residual.result c.from_residual.ensures.1 in
    rw (error.1, error.2) (λ other. no-info c.args.project.now c.args.command.now c.in_err-listing.field-0.0 c.requires.0 (c.in_err-listing.ensures.refused other) c.requires.1)
