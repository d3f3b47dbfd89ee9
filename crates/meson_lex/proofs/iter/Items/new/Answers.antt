use Rattle.meson_lex.proofs.ScanLexed.{scan_lexed}
use Rattle.meson_lex.proofs.Tiling.{scan_tiles}
use Rattle.meson_lex.proofs.iter.Items.new.Goals as goal

pub returns : goal.returns
returns c = record { lexed = scan_lexed 0 c.args.source.now; tiles = scan_tiles c.args.source.now }
