-- HMAC's definition at a published message, computed. Assumes nothing.
use mathlib.Core.Path.{◌≡◌, refl}
use Rattle.laws.specs.Lists.{part}
use Rattle.laws.specs.Bytes.{be4, be8, u32at}
use Rattle.sha256.specs.Sha256 as S
use Rattle.hmac.specs.Hmac as M
use Rattle.hash_vectors.specs.Mac.{HmacExamples, key, message, code}

case_2 : M.hmac key message ≡ code
unfolding M.hmac M.inner_pad M.outer_pad M.key_block M.zero_padded M.xored S.sha256 S.digest S.hashed S.compress S.sums S.schedule S.extended S.next S.words S.block S.pad S.tail S.bytes S.rounds S.round S.add S.Σ0 S.Σ1 S.σ0 S.σ1 S.ch S.maj S.rotr S.shr S.complement S.K S.H0 part be4 be8 u32at
case_2 = refl

case_2_kept : M.hmac_with (M.key_of key) message ≡ code
unfolding M.hmac_with M.key_of M.inner_pad M.outer_pad M.key_block M.zero_padded M.xored S.finished S.sha256 S.digest S.hashed S.compress S.sums S.schedule S.extended S.next S.words S.block S.pad S.tail S.bytes S.rounds S.round S.add S.Σ0 S.Σ1 S.σ0 S.σ1 S.ch S.maj S.rotr S.shr S.complement S.K S.H0 part be4 be8 u32at
case_2_kept = refl

pub hmac_examples : HmacExamples
hmac_examples = record { case_2 = case_2; case_2_kept = case_2_kept }
