-- Annex A of 000, computed from the rules. Assumes nothing.
use mathlib.Core.Path.{◌≡◌, refl}
use mathlib.Core.Bool.{true, false}
use mathlib.Core.List.{[], ◌∷◌}
use lib.ListN.{replicate}
use Rattle.rules.specs.Chain.{key_step, held}
use Rattle.rules.specs.Kroot.{signed_message, parameters_bad, contents_of, chain_with}
use Rattle.rules.specs.Pkr.{pkr_size_bad, climbed}
use Rattle.rules.specs.Tags.{own_tag, first_message, tag_message, tag_matches, macseq_message, macseq_fits}
use Rattle.annex_a.specs.Vectors.{AnnexA, dsm_kroot, chain, key2, key1, key0, key73, navdata, tag0, message0, section18, config, tag_of_two, message_of_two, dsm_pkr}
use Rattle.hmac.specs.Hmac as Hmac
use Rattle.laws.specs.Bytes as Bytes
use Rattle.laws.specs.Lists as Lists
use Rattle.rules.specs.Bits as Bits
use Rattle.rules.specs.Chain as Chain
use Rattle.rules.specs.Kroot as Kroot
use Rattle.rules.specs.Mack as Mack
use Rattle.rules.specs.Navdata as Words
use Rattle.rules.specs.Pkr as Pkr
use Rattle.rules.specs.PublicKeys as Keys
use Rattle.rules.specs.State as State
use Rattle.rules.specs.Tags as Tags
use Rattle.rules.specs.Times as Times
use Rattle.sha256.specs.Sha256 as Sha256

message_signed : signed_message 0x82 dsm_kroot ≡ 0x82 ∷ 0x20 ∷ 0x41 ∷ 0x0B ∷ 0x03 ∷ 0xB3 ∷ 0x78 ∷ 0xF1 ∷ 0xCA ∷ 0x38 ∷ 0x56 ∷ 0xA9 ∷ 0x75 ∷ 0xEE ∷ 0x67 ∷ 0x72 ∷ 0xD9 ∷ 0xAB ∷ 0x83 ∷ 0x96 ∷ 0x86 ∷ 0x6D ∷ 0xC5 ∷ 0x7E ∷ 0xAD ∷ 0xA1 ∷ 0xD2 ∷ 0x96 ∷ 0x37 ∷ replicate 16 0
unfolding Bits.bit Bits.bits Bits.bit_list Bits.bytes_at Bits.octet Bits.packed Bits.filled Kroot.cidkr_of Kroot.nmack_of Kroot.hf_of Kroot.mf_of Kroot.ks_of Kroot.ms_of Kroot.maclt_field_of Kroot.mo_of Kroot.root_week_of Kroot.root_hour_of Kroot.alpha_of Kroot.key_width Kroot.tag_width Kroot.kroot_of Kroot.root_seconds_of Kroot.block_bits Kroot.fields_for Kroot.parameters_bad Kroot.hf_bad Chain.hash_bytes Kroot.mf_bad Kroot.aes_width Kroot.pkid_of Kroot.contents_of Kroot.least_blocks Kroot.kroot_blocks Kroot.kroot_checks Kroot.signed_message Kroot.signature_of Kroot.offered Kroot.offer_waits Kroot.offer_id Kroot.offer_message Kroot.offer_signature Kroot.no_offer Kroot.kroot_judged Kroot.chain_with Kroot.chain_contents Kroot.in_force Kroot.ever_forced Lists.part Lists.splice Lists.same
message_signed = refl

parameters_fit : parameters_bad (0 ∷ 11 ∷ []) (contents_of dsm_kroot) ≡ false
unfolding State.maclt_of Bits.bit Bits.bits Bits.bit_list Bits.bytes_at Bits.octet Bits.packed Bits.filled Kroot.cidkr_of Kroot.nmack_of Kroot.hf_of Kroot.mf_of Kroot.ks_of Kroot.ms_of Kroot.maclt_field_of Kroot.mo_of Kroot.root_week_of Kroot.root_hour_of Kroot.alpha_of Kroot.key_width Kroot.tag_width Kroot.kroot_of Kroot.root_seconds_of Kroot.block_bits Kroot.fields_for Kroot.parameters_bad Kroot.hf_bad Chain.hash_bytes Kroot.mf_bad Kroot.aes_width Kroot.pkid_of Kroot.contents_of Kroot.least_blocks Kroot.kroot_blocks Kroot.kroot_checks Kroot.signed_message Kroot.signature_of Kroot.offered Kroot.offer_waits Kroot.offer_id Kroot.offer_message Kroot.offer_signature Kroot.no_offer Kroot.kroot_judged Kroot.chain_with Kroot.chain_contents Kroot.in_force Kroot.ever_forced Lists.part Lists.splice Lists.same
parameters_fit = refl

chain_is : chain_with 36 (contents_of dsm_kroot) ≡ chain
unfolding Bits.bit Bits.bits Bits.bit_list Bits.bytes_at Bits.octet Bits.packed Bits.filled Times.gst Times.week_of Times.second_of Times.time_valid Times.seconds_of Times.gst_of Times.stamp_of Times.hour_seconds Times.subframe_at Times.slot_of Times.lowest_slot Times.slot_seconds Times.delay_of Times.key_seconds Times.tag_slot Kroot.cidkr_of Kroot.nmack_of Kroot.hf_of Kroot.mf_of Kroot.ks_of Kroot.ms_of Kroot.maclt_field_of Kroot.mo_of Kroot.root_week_of Kroot.root_hour_of Kroot.alpha_of Kroot.key_width Kroot.tag_width Kroot.kroot_of Kroot.root_seconds_of Kroot.block_bits Kroot.fields_for Kroot.parameters_bad Kroot.hf_bad Chain.hash_bytes Kroot.mf_bad Kroot.aes_width Kroot.pkid_of Kroot.contents_of Kroot.least_blocks Kroot.kroot_blocks Kroot.kroot_checks Kroot.signed_message Kroot.signature_of Kroot.offered Kroot.offer_waits Kroot.offer_id Kroot.offer_message Kroot.offer_signature Kroot.no_offer Kroot.kroot_judged Kroot.chain_with Kroot.chain_contents Kroot.in_force Kroot.ever_forced Lists.part Lists.splice Lists.same
chain_is = refl

step_to_1 : key_step chain 1 key2 ≡ key1
unfolding Times.gst Times.week_of Times.second_of Times.time_valid Times.seconds_of Times.gst_of Times.stamp_of Times.hour_seconds Times.subframe_at Times.slot_of Times.lowest_slot Times.slot_seconds Times.delay_of Times.key_seconds Times.tag_slot Chain.slot_time Chain.chain_hash Chain.key_step Chain.walk Chain.key_of_slot Chain.key_fits Chain.higher Chain.sent_slot Chain.key_slot Sha256.add Sha256.complement Sha256.shr Sha256.rotr Sha256.ch Sha256.maj Sha256.Σ0 Sha256.Σ1 Sha256.σ0 Sha256.σ1 Sha256.K Sha256.tail Sha256.pad Sha256.block Sha256.words Sha256.H0 Sha256.next Sha256.extended Sha256.schedule Sha256.round Sha256.rounds Sha256.sums Sha256.compress Sha256.hashed Sha256.bytes Sha256.digest Sha256.sha256 Sha256.finished Bytes.be2 Bytes.be4 Bytes.be8 Bytes.u16at Bytes.u32at Lists.part Lists.splice Lists.same
step_to_1 = refl

step_to_root : key_step chain 0 key1 ≡ key0
unfolding Times.gst Times.week_of Times.second_of Times.time_valid Times.seconds_of Times.gst_of Times.stamp_of Times.hour_seconds Times.subframe_at Times.slot_of Times.lowest_slot Times.slot_seconds Times.delay_of Times.key_seconds Times.tag_slot Chain.slot_time Chain.chain_hash Chain.key_step Chain.walk Chain.key_of_slot Chain.key_fits Chain.higher Chain.sent_slot Chain.key_slot Sha256.add Sha256.complement Sha256.shr Sha256.rotr Sha256.ch Sha256.maj Sha256.Σ0 Sha256.Σ1 Sha256.σ0 Sha256.σ1 Sha256.K Sha256.tail Sha256.pad Sha256.block Sha256.words Sha256.H0 Sha256.next Sha256.extended Sha256.schedule Sha256.round Sha256.rounds Sha256.sums Sha256.compress Sha256.hashed Sha256.bytes Sha256.digest Sha256.sha256 Sha256.finished Bytes.be2 Bytes.be4 Bytes.be8 Bytes.u16at Bytes.u32at Lists.part Lists.splice Lists.same
step_to_root = refl

tag0_is : own_tag chain section18 0 ≡ tag0
unfolding Bits.bit Bits.bits Bits.bit_list Bits.bytes_at Bits.octet Bits.packed Bits.filled Words.word_type Words.svid_of Words.word_issue Words.held_type Words.word_place Words.word_at Words.word_stored Words.set_bits Words.set_bytes Words.set_of Words.set_issue Words.word_came Words.came_before Words.one_issue Words.set_usable Words.usable Tags.mac_bits Tags.mac_code Tags.status_and_set Tags.first_message Tags.tag_message Tags.tag_key Tags.tag_matches Tags.tag_record Tags.record_issue Tags.tag_entry Tags.entry_at Tags.entry_tag Tags.entry_set Tags.is_due Tags.told Tags.kept Tags.due_judged Tags.dues_judged Tags.second_half Tags.flexible Tags.own_tag Tags.macseq_message Tags.macseq_fits Tags.not_allowed Tags.own_outcome Tags.own_judged Tags.owns_judged Sha256.add Sha256.complement Sha256.shr Sha256.rotr Sha256.ch Sha256.maj Sha256.Σ0 Sha256.Σ1 Sha256.σ0 Sha256.σ1 Sha256.K Sha256.tail Sha256.pad Sha256.block Sha256.words Sha256.H0 Sha256.next Sha256.extended Sha256.schedule Sha256.round Sha256.rounds Sha256.sums Sha256.compress Sha256.hashed Sha256.bytes Sha256.digest Sha256.sha256 Sha256.finished Hmac.zero_padded Hmac.key_block Hmac.xored Hmac.inner_pad Hmac.outer_pad Hmac.hmac Hmac.key_of Hmac.hmac_with Bytes.be2 Bytes.be4 Bytes.be8 Bytes.u16at Bytes.u32at Lists.part Lists.splice Lists.same Times.gst Times.week_of Times.second_of Times.time_valid Times.seconds_of Times.gst_of Times.stamp_of Times.hour_seconds Times.subframe_at Times.slot_of Times.lowest_slot Times.slot_seconds Times.delay_of Times.key_seconds Times.tag_slot Chain.slot_time Chain.chain_hash Chain.key_step Chain.walk Chain.key_of_slot Chain.key_fits Chain.higher Chain.sent_slot Chain.key_slot Mack.block_at Mack.field_at Mack.field_tag Mack.field_info Mack.macseq_of Kroot.block_bits State.mark_of
tag0_is = refl

message_0 : first_message tag0 navdata ≡ message0
unfolding Bits.bit Bits.bits Bits.bit_list Bits.bytes_at Bits.octet Bits.packed Bits.filled Words.word_type Words.svid_of Words.word_issue Words.held_type Words.word_place Words.word_at Words.word_stored Words.set_bits Words.set_bytes Words.set_of Words.set_issue Words.word_came Words.came_before Words.one_issue Words.set_usable Words.usable Tags.mac_bits Tags.mac_code Tags.status_and_set Tags.first_message Tags.tag_message Tags.tag_key Tags.tag_matches Tags.tag_record Tags.record_issue Tags.tag_entry Tags.entry_at Tags.entry_tag Tags.entry_set Tags.is_due Tags.told Tags.kept Tags.due_judged Tags.dues_judged Tags.second_half Tags.flexible Tags.own_tag Tags.macseq_message Tags.macseq_fits Tags.not_allowed Tags.own_outcome Tags.own_judged Tags.owns_judged Sha256.add Sha256.complement Sha256.shr Sha256.rotr Sha256.ch Sha256.maj Sha256.Σ0 Sha256.Σ1 Sha256.σ0 Sha256.σ1 Sha256.K Sha256.tail Sha256.pad Sha256.block Sha256.words Sha256.H0 Sha256.next Sha256.extended Sha256.schedule Sha256.round Sha256.rounds Sha256.sums Sha256.compress Sha256.hashed Sha256.bytes Sha256.digest Sha256.sha256 Sha256.finished Hmac.zero_padded Hmac.key_block Hmac.xored Hmac.inner_pad Hmac.outer_pad Hmac.hmac Hmac.key_of Hmac.hmac_with Bytes.be2 Bytes.be4 Bytes.be8 Bytes.u16at Bytes.u32at Lists.part Lists.splice Lists.same Times.gst Times.week_of Times.second_of Times.time_valid Times.seconds_of Times.gst_of Times.stamp_of Times.hour_seconds Times.subframe_at Times.slot_of Times.lowest_slot Times.slot_seconds Times.delay_of Times.key_seconds Times.tag_slot Chain.slot_time Chain.chain_hash Chain.key_step Chain.walk Chain.key_of_slot Chain.key_fits Chain.higher Chain.sent_slot Chain.key_slot Mack.block_at Mack.field_at Mack.field_tag Mack.field_info Mack.macseq_of Kroot.block_bits State.mark_of
message_0 = refl

tag0_matches : tag_matches chain (held 73 key73) true tag0 navdata ≡ true
unfolding Bits.bit Bits.bits Bits.bit_list Bits.bytes_at Bits.octet Bits.packed Bits.filled Words.word_type Words.svid_of Words.word_issue Words.held_type Words.word_place Words.word_at Words.word_stored Words.set_bits Words.set_bytes Words.set_of Words.set_issue Words.word_came Words.came_before Words.one_issue Words.set_usable Words.usable Tags.mac_bits Tags.mac_code Tags.status_and_set Tags.first_message Tags.tag_message Tags.tag_key Tags.tag_matches Tags.tag_record Tags.record_issue Tags.tag_entry Tags.entry_at Tags.entry_tag Tags.entry_set Tags.is_due Tags.told Tags.kept Tags.due_judged Tags.dues_judged Tags.second_half Tags.flexible Tags.own_tag Tags.macseq_message Tags.macseq_fits Tags.not_allowed Tags.own_outcome Tags.own_judged Tags.owns_judged Sha256.add Sha256.complement Sha256.shr Sha256.rotr Sha256.ch Sha256.maj Sha256.Σ0 Sha256.Σ1 Sha256.σ0 Sha256.σ1 Sha256.K Sha256.tail Sha256.pad Sha256.block Sha256.words Sha256.H0 Sha256.next Sha256.extended Sha256.schedule Sha256.round Sha256.rounds Sha256.sums Sha256.compress Sha256.hashed Sha256.bytes Sha256.digest Sha256.sha256 Sha256.finished Hmac.zero_padded Hmac.key_block Hmac.xored Hmac.inner_pad Hmac.outer_pad Hmac.hmac Hmac.key_of Hmac.hmac_with Bytes.be2 Bytes.be4 Bytes.be8 Bytes.u16at Bytes.u32at Lists.part Lists.splice Lists.same Times.gst Times.week_of Times.second_of Times.time_valid Times.seconds_of Times.gst_of Times.stamp_of Times.hour_seconds Times.subframe_at Times.slot_of Times.lowest_slot Times.slot_seconds Times.delay_of Times.key_seconds Times.tag_slot Chain.slot_time Chain.chain_hash Chain.key_step Chain.walk Chain.key_of_slot Chain.key_fits Chain.higher Chain.sent_slot Chain.key_slot Mack.block_at Mack.field_at Mack.field_tag Mack.field_info Mack.macseq_of Kroot.block_bits State.mark_of
tag0_matches = refl

message_of_two_law : tag_message tag_of_two navdata ≡ message_of_two
unfolding Bits.bit Bits.bits Bits.bit_list Bits.bytes_at Bits.octet Bits.packed Bits.filled Words.word_type Words.svid_of Words.word_issue Words.held_type Words.word_place Words.word_at Words.word_stored Words.set_bits Words.set_bytes Words.set_of Words.set_issue Words.word_came Words.came_before Words.one_issue Words.set_usable Words.usable Tags.mac_bits Tags.mac_code Tags.status_and_set Tags.first_message Tags.tag_message Tags.tag_key Tags.tag_matches Tags.tag_record Tags.record_issue Tags.tag_entry Tags.entry_at Tags.entry_tag Tags.entry_set Tags.is_due Tags.told Tags.kept Tags.due_judged Tags.dues_judged Tags.second_half Tags.flexible Tags.own_tag Tags.macseq_message Tags.macseq_fits Tags.not_allowed Tags.own_outcome Tags.own_judged Tags.owns_judged Sha256.add Sha256.complement Sha256.shr Sha256.rotr Sha256.ch Sha256.maj Sha256.Σ0 Sha256.Σ1 Sha256.σ0 Sha256.σ1 Sha256.K Sha256.tail Sha256.pad Sha256.block Sha256.words Sha256.H0 Sha256.next Sha256.extended Sha256.schedule Sha256.round Sha256.rounds Sha256.sums Sha256.compress Sha256.hashed Sha256.bytes Sha256.digest Sha256.sha256 Sha256.finished Hmac.zero_padded Hmac.key_block Hmac.xored Hmac.inner_pad Hmac.outer_pad Hmac.hmac Hmac.key_of Hmac.hmac_with Bytes.be2 Bytes.be4 Bytes.be8 Bytes.u16at Bytes.u32at Lists.part Lists.splice Lists.same Times.gst Times.week_of Times.second_of Times.time_valid Times.seconds_of Times.gst_of Times.stamp_of Times.hour_seconds Times.subframe_at Times.slot_of Times.lowest_slot Times.slot_seconds Times.delay_of Times.key_seconds Times.tag_slot Chain.slot_time Chain.chain_hash Chain.key_step Chain.walk Chain.key_of_slot Chain.key_fits Chain.higher Chain.sent_slot Chain.key_slot Mack.block_at Mack.field_at Mack.field_tag Mack.field_info Mack.macseq_of Kroot.block_bits State.mark_of
message_of_two_law = refl

tag_of_two_matches : tag_matches chain (held 73 key73) false tag_of_two navdata ≡ true
unfolding Bits.bit Bits.bits Bits.bit_list Bits.bytes_at Bits.octet Bits.packed Bits.filled Words.word_type Words.svid_of Words.word_issue Words.held_type Words.word_place Words.word_at Words.word_stored Words.set_bits Words.set_bytes Words.set_of Words.set_issue Words.word_came Words.came_before Words.one_issue Words.set_usable Words.usable Tags.mac_bits Tags.mac_code Tags.status_and_set Tags.first_message Tags.tag_message Tags.tag_key Tags.tag_matches Tags.tag_record Tags.record_issue Tags.tag_entry Tags.entry_at Tags.entry_tag Tags.entry_set Tags.is_due Tags.told Tags.kept Tags.due_judged Tags.dues_judged Tags.second_half Tags.flexible Tags.own_tag Tags.macseq_message Tags.macseq_fits Tags.not_allowed Tags.own_outcome Tags.own_judged Tags.owns_judged Sha256.add Sha256.complement Sha256.shr Sha256.rotr Sha256.ch Sha256.maj Sha256.Σ0 Sha256.Σ1 Sha256.σ0 Sha256.σ1 Sha256.K Sha256.tail Sha256.pad Sha256.block Sha256.words Sha256.H0 Sha256.next Sha256.extended Sha256.schedule Sha256.round Sha256.rounds Sha256.sums Sha256.compress Sha256.hashed Sha256.bytes Sha256.digest Sha256.sha256 Sha256.finished Hmac.zero_padded Hmac.key_block Hmac.xored Hmac.inner_pad Hmac.outer_pad Hmac.hmac Hmac.key_of Hmac.hmac_with Bytes.be2 Bytes.be4 Bytes.be8 Bytes.u16at Bytes.u32at Lists.part Lists.splice Lists.same Times.gst Times.week_of Times.second_of Times.time_valid Times.seconds_of Times.gst_of Times.stamp_of Times.hour_seconds Times.subframe_at Times.slot_of Times.lowest_slot Times.slot_seconds Times.delay_of Times.key_seconds Times.tag_slot Chain.slot_time Chain.chain_hash Chain.key_step Chain.walk Chain.key_of_slot Chain.key_fits Chain.higher Chain.sent_slot Chain.key_slot Mack.block_at Mack.field_at Mack.field_tag Mack.field_info Mack.macseq_of Kroot.block_bits State.mark_of
tag_of_two_matches = refl

macseq_message_law : macseq_message config chain section18 8 ≡ 0x12 ∷ 0x3B ∷ 0x36 ∷ 0x97 ∷ 0x9E ∷ 0xFF ∷ 0x40 ∷ 0x12 ∷ 0xB0 ∷ []
unfolding Bits.bit Bits.bits Bits.bit_list Bits.bytes_at Bits.octet Bits.packed Bits.filled Words.word_type Words.svid_of Words.word_issue Words.held_type Words.word_place Words.word_at Words.word_stored Words.set_bits Words.set_bytes Words.set_of Words.set_issue Words.word_came Words.came_before Words.one_issue Words.set_usable Words.usable Tags.mac_bits Tags.mac_code Tags.status_and_set Tags.first_message Tags.tag_message Tags.tag_key Tags.tag_matches Tags.tag_record Tags.record_issue Tags.tag_entry Tags.entry_at Tags.entry_tag Tags.entry_set Tags.is_due Tags.told Tags.kept Tags.due_judged Tags.dues_judged Tags.second_half Tags.flexible Tags.own_tag Tags.macseq_message Tags.macseq_fits Tags.not_allowed Tags.own_outcome Tags.own_judged Tags.owns_judged Sha256.add Sha256.complement Sha256.shr Sha256.rotr Sha256.ch Sha256.maj Sha256.Σ0 Sha256.Σ1 Sha256.σ0 Sha256.σ1 Sha256.K Sha256.tail Sha256.pad Sha256.block Sha256.words Sha256.H0 Sha256.next Sha256.extended Sha256.schedule Sha256.round Sha256.rounds Sha256.sums Sha256.compress Sha256.hashed Sha256.bytes Sha256.digest Sha256.sha256 Sha256.finished Hmac.zero_padded Hmac.key_block Hmac.xored Hmac.inner_pad Hmac.outer_pad Hmac.hmac Hmac.key_of Hmac.hmac_with Bytes.be2 Bytes.be4 Bytes.be8 Bytes.u16at Bytes.u32at Lists.part Lists.splice Lists.same Times.gst Times.week_of Times.second_of Times.time_valid Times.seconds_of Times.gst_of Times.stamp_of Times.hour_seconds Times.subframe_at Times.slot_of Times.lowest_slot Times.slot_seconds Times.delay_of Times.key_seconds Times.tag_slot Chain.slot_time Chain.chain_hash Chain.key_step Chain.walk Chain.key_of_slot Chain.key_fits Chain.higher Chain.sent_slot Chain.key_slot Mack.block_at Mack.field_at Mack.field_tag Mack.field_info Mack.macseq_of Kroot.block_bits State.mark_of
macseq_message_law = refl

macseq_fits_law : macseq_fits config chain (held 73 key73) section18 ≡ true
unfolding Bits.bit Bits.bits Bits.bit_list Bits.bytes_at Bits.octet Bits.packed Bits.filled Words.word_type Words.svid_of Words.word_issue Words.held_type Words.word_place Words.word_at Words.word_stored Words.set_bits Words.set_bytes Words.set_of Words.set_issue Words.word_came Words.came_before Words.one_issue Words.set_usable Words.usable Tags.mac_bits Tags.mac_code Tags.status_and_set Tags.first_message Tags.tag_message Tags.tag_key Tags.tag_matches Tags.tag_record Tags.record_issue Tags.tag_entry Tags.entry_at Tags.entry_tag Tags.entry_set Tags.is_due Tags.told Tags.kept Tags.due_judged Tags.dues_judged Tags.second_half Tags.flexible Tags.own_tag Tags.macseq_message Tags.macseq_fits Tags.not_allowed Tags.own_outcome Tags.own_judged Tags.owns_judged Sha256.add Sha256.complement Sha256.shr Sha256.rotr Sha256.ch Sha256.maj Sha256.Σ0 Sha256.Σ1 Sha256.σ0 Sha256.σ1 Sha256.K Sha256.tail Sha256.pad Sha256.block Sha256.words Sha256.H0 Sha256.next Sha256.extended Sha256.schedule Sha256.round Sha256.rounds Sha256.sums Sha256.compress Sha256.hashed Sha256.bytes Sha256.digest Sha256.sha256 Sha256.finished Hmac.zero_padded Hmac.key_block Hmac.xored Hmac.inner_pad Hmac.outer_pad Hmac.hmac Hmac.key_of Hmac.hmac_with Bytes.be2 Bytes.be4 Bytes.be8 Bytes.u16at Bytes.u32at Lists.part Lists.splice Lists.same Times.gst Times.week_of Times.second_of Times.time_valid Times.seconds_of Times.gst_of Times.stamp_of Times.hour_seconds Times.subframe_at Times.slot_of Times.lowest_slot Times.slot_seconds Times.delay_of Times.key_seconds Times.tag_slot Chain.slot_time Chain.chain_hash Chain.key_step Chain.walk Chain.key_of_slot Chain.key_fits Chain.higher Chain.sent_slot Chain.key_slot Mack.block_at Mack.field_at Mack.field_tag Mack.field_info Mack.macseq_of Kroot.block_bits State.mark_of
macseq_fits_law = refl

size_fits : pkr_size_bad dsm_pkr ≡ false
unfolding Bits.bit Bits.bits Bits.bit_list Bits.bytes_at Bits.octet Bits.packed Bits.filled Kroot.cidkr_of Kroot.nmack_of Kroot.hf_of Kroot.mf_of Kroot.ks_of Kroot.ms_of Kroot.maclt_field_of Kroot.mo_of Kroot.root_week_of Kroot.root_hour_of Kroot.alpha_of Kroot.key_width Kroot.tag_width Kroot.kroot_of Kroot.root_seconds_of Kroot.block_bits Kroot.fields_for Kroot.parameters_bad Kroot.hf_bad Chain.hash_bytes Kroot.mf_bad Kroot.aes_width Kroot.pkid_of Kroot.contents_of Kroot.least_blocks Kroot.kroot_blocks Kroot.kroot_checks Kroot.signed_message Kroot.signature_of Kroot.offered Kroot.offer_waits Kroot.offer_id Kroot.offer_message Kroot.offer_signature Kroot.no_offer Kroot.kroot_judged Kroot.chain_with Kroot.chain_contents Kroot.in_force Kroot.ever_forced Pkr.message_id_of Pkr.new_type_of Pkr.new_id_of Pkr.new_key_of Pkr.emergency Pkr.pkr_size_bad Pkr.leaf_of Pkr.node_of Pkr.joined Pkr.climbed Pkr.tree_proved Pkr.key_welcome Pkr.pkr_checks Pkr.key_added Pkr.pkr_judged Keys.key_length Keys.signature_length Keys.key_held Keys.key_type Keys.key_bytes Keys.held_among Keys.above_all Keys.same_key Keys.with_key Keys.without_lower Lists.part Lists.splice Lists.same
size_fits = refl

tree_root : climbed dsm_pkr 4 ≡ 0x5E ∷ 0x53 ∷ 0xB0 ∷ 0x1C ∷ 0xC5 ∷ 0x5A ∷ 0x97 ∷ 0x81 ∷ 0x80 ∷ 0x04 ∷ 0x0E ∷ 0x95 ∷ 0xAB ∷ 0x12 ∷ 0x9F ∷ 0x2E ∷ 0x2C ∷ 0x4B ∷ 0x65 ∷ 0xCB ∷ 0xDF ∷ 0xA8 ∷ 0x49 ∷ 0xE4 ∷ 0xDE ∷ 0x9E ∷ 0x26 ∷ 0xAC ∷ 0x73 ∷ 0x15 ∷ 0xA4 ∷ 0x9D ∷ []
unfolding Bits.bit Bits.bits Bits.bit_list Bits.bytes_at Bits.octet Bits.packed Bits.filled Pkr.message_id_of Pkr.new_type_of Pkr.new_id_of Pkr.new_key_of Pkr.emergency Pkr.pkr_size_bad Pkr.leaf_of Pkr.node_of Pkr.joined Pkr.climbed Pkr.tree_proved Pkr.key_welcome Pkr.pkr_checks Pkr.key_added Pkr.pkr_judged Keys.key_length Keys.signature_length Keys.key_held Keys.key_type Keys.key_bytes Keys.held_among Keys.above_all Keys.same_key Keys.with_key Keys.without_lower Sha256.add Sha256.complement Sha256.shr Sha256.rotr Sha256.ch Sha256.maj Sha256.Σ0 Sha256.Σ1 Sha256.σ0 Sha256.σ1 Sha256.K Sha256.tail Sha256.pad Sha256.block Sha256.words Sha256.H0 Sha256.next Sha256.extended Sha256.schedule Sha256.round Sha256.rounds Sha256.sums Sha256.compress Sha256.hashed Sha256.bytes Sha256.digest Sha256.sha256 Sha256.finished Bytes.be2 Bytes.be4 Bytes.be8 Bytes.u16at Bytes.u32at Lists.part Lists.splice Lists.same
tree_root = refl

pub annex_a : AnnexA
annex_a =
    record {
      message_signed = message_signed;
      parameters_fit = parameters_fit;
      chain_is = chain_is;
      step_to_1 = step_to_1;
      step_to_root = step_to_root;
      tag0_is = tag0_is;
      message_0 = message_0;
      tag0_matches = tag0_matches;
      message_of_two_law = message_of_two_law;
      tag_of_two_matches = tag_of_two_matches;
      macseq_message_law = macseq_message_law;
      macseq_fits_law = macseq_fits_law;
      size_fits = size_fits;
      tree_root = tree_root;
    }
