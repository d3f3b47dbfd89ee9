use Rattle.meson_edit.proofs.Words.{Nowhere, list-fits}
use Rattle.meson_edit.proofs.exchange.Lists.{lists-exchange}
use Rattle.meson_edit.proofs.exchange.ReadAgain.{read-again}
use Rattle.meson_edit.proofs.trees.exchange.Goals as goal

pub returns : goal.returns
returns c = record {
  lists_exchange = lists-exchange;
  lists_read_again = read-again;
  lists_level = λ t path q is level l m. let fits = list-fits Nowhere t path q is in fits.outside level l m;
}
