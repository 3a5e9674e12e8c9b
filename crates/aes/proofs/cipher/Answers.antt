-- `aes::cipher` meets its contract: before turn i the state is that after i - 1 rounds.
use native.Mathlib.Omega.{arith}
use Rattle.aes.proofs.States.{no_round, one_more, cipher_is}
use Rattle.aes.proofs.cipher.Goals as goal

pub loop-i-init : goal.loop-i-init
loop-i-init c = no_round _ _

pub loop-i-preserved : goal.loop-i-preserved
loop-i-preserved c =
    one_more c.args.w.now _ c.loop-i.s _ _ _ c.loop-i.i (omega arith) c.loop-i.invariant c.sub_shift.ensures c.mix_columns.ensures c.add_round_key-s-in-loop-i.ensures

pub returns : goal.returns
returns c =
    cipher_is c.args.w.now _ _ _ c.loop-i.s _ _ _ c.loop-i.i _ (omega arith) (omega arith) c.columns.ensures c.add_round_key-s.ensures
    c.loop-i.invariant c.sub_shift-2.ensures c.add_round_key.ensures c.bytes.ensures
