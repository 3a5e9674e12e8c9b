-- `section_checks::chain_of` meets its contract: the contents are the bytes after the first.
use mathlib.Core.Path.{◌≡◌}
use Rattle.laws.specs.Lists.{part}
use Rattle.rules.specs.Kroot.{chain_with, chain_contents}
use Rattle.section_checks.proofs.Sections.{chain_fits}
use Rattle.section_checks.proofs.chain_of.Goals as goal
use Rattle.section_checks.proofs.chain_of.Goals.{After-chain_with}

is-chain : (c : After-chain_with) → c.chain_with.result ≡ chain_with c.ns_of.result (chain_contents c.args.chain.now)
unfolding chain_contents part
is-chain c = c.chain_with.ensures

pub returns : goal.returns
returns c =
    let n = c.ns_of.ensures in
    let g = c.args in (
      rw (← n.0) (is-chain (goal.at.returns c).After-chain_with),
      λ e. chain_fits g.config.now g.chain.now c.ns_of.result c.chain_with.result (is-chain (goal.at.returns c).After-chain_with) n.1.0 n.1.1 e,
    )
