-- The rules, opened for computing: where a proof says `unfolding opened`, every definition named here unfolds. `mac_bits`, `told` and `fields_judged` are
-- named by those that need them, so that what is known of a tag is not computed again. Assumes nothing.
use lib.Count.{ones}
use Rattle.hmac.specs.Hmac as Hmac
use Rattle.laws.specs.Bytes as Bytes
use Rattle.laws.specs.Lists as Lists
use Rattle.rules.specs.Bits as Bits
use Rattle.rules.specs.Calls as Calls
use Rattle.rules.specs.Candidates as Candidates
use Rattle.rules.specs.Chain as Chain
use Rattle.rules.specs.Gather as Gather
use Rattle.rules.specs.Kroot as Kroot
use Rattle.rules.specs.Log as Log
use Rattle.rules.specs.Mack as Mack
use Rattle.rules.specs.Navdata as Navdata
use Rattle.rules.specs.Pkr as Pkr
use Rattle.rules.specs.PublicKeys as PublicKeys
use Rattle.rules.specs.Received as Received
use Rattle.rules.specs.State as State
use Rattle.rules.specs.Tags as Tags
use Rattle.rules.specs.Times as Times
use Rattle.rules.specs.Verdict as Verdict
use Rattle.sha256.specs.Sha256 as Sha256

-- to unfold it is to unfold what its own line names
unfoldable pub opened : Unit {0}
unfolding ones Bits.bit Bits.bits Bits.bit_list Bits.bytes_at Bits.octet Bits.packed Bits.filled Calls.mark_valid Calls.marks_valid Calls.start_unfit Calls.start_lengths Calls.start_checks Calls.fresh Calls.start_call Calls.word_unfit Calls.word_checks Calls.word_taken Calls.word_call Calls.verdict_checks Calls.verdict_call Calls.kroot_done Calls.pkr_done Calls.store_done Calls.hkroot_half Calls.hkroot_received Received.field_came Received.fields_came Received.received Received.bits_came Received.shown Received.key_came Received.tag_came Received.info_came Received.flexible_came Received.macseq_came Received.block_received Received.keys_received Received.field_lost Received.lost_tag Received.field_judged Calls.chain_of Calls.held_of Calls.section_unfit Calls.section_proved Calls.tags_worked Calls.section_taken Calls.mack_half Calls.subframe_checks Calls.noted Calls.halves_done Calls.subframe_call Calls.auth_stamp Calls.auth_set Calls.set_read_checks Calls.set_read Calls.offer_read_checks Calls.offer_read Chain.slot_time Chain.chain_hash Chain.key_step Chain.walk Chain.key_of_slot Chain.key_fits Chain.higher Chain.sent_slot Chain.key_slot Gather.hkroot_of Gather.mack_of Gather.header_of Gather.status_of Gather.cid_of Gather.dsm_id_of Gather.block_id_of Gather.block_of Gather.blocks_for Gather.total_of Gather.marked Gather.with_mark Gather.stored_block Gather.drops_blocks Gather.kept_marks Gather.reserved_count Gather.too_high Gather.with_block Gather.complete Gather.dsm_of Gather.once_taken_out Gather.stored Gather.gathered PublicKeys.key_length PublicKeys.signature_length PublicKeys.key_held PublicKeys.key_type PublicKeys.key_bytes PublicKeys.held_among PublicKeys.above_all PublicKeys.same_key PublicKeys.with_key PublicKeys.without_lower Kroot.cidkr_of Kroot.nmack_of Kroot.hf_of Kroot.mf_of Kroot.ks_of Kroot.ms_of Kroot.maclt_field_of Kroot.mo_of Kroot.root_week_of Kroot.root_hour_of Kroot.alpha_of Kroot.key_width Kroot.tag_width Kroot.kroot_of Kroot.root_seconds_of Kroot.block_bits Kroot.fields_for Kroot.parameters_bad Kroot.hf_bad Chain.hash_bytes Kroot.mf_bad Kroot.aes_width Kroot.pkid_of Kroot.contents_of Kroot.least_blocks Kroot.kroot_blocks Kroot.kroot_checks Kroot.signed_message Kroot.signature_of Kroot.offered Kroot.offer_waits Kroot.offer_id Kroot.offer_message Kroot.offer_signature Kroot.no_offer Kroot.kroot_judged Kroot.chain_with Kroot.chain_contents Kroot.in_force Kroot.ever_forced Log.step Log.asked State.word_shaped State.verdict_shaped State.set_shaped State.offer_shaped Log.ran Log.ran_from Log.state_at Mack.block_at Mack.field_at Mack.field_tag Mack.field_info Mack.macseq_of Mack.key_at Mack.block_key Mack.spare_bits Mack.too_far Mack.block_checks Mack.block_proved Mack.keys_proved Pkr.message_id_of Pkr.new_type_of Pkr.new_id_of Pkr.new_key_of Pkr.emergency Pkr.pkr_size_bad Pkr.leaf_of Pkr.node_of Pkr.joined Pkr.climbed Pkr.tree_proved Pkr.key_welcome Pkr.pkr_checks Pkr.key_added Pkr.pkr_judged State.shaped State.ns_of State.maclt_of State.mark_of State.tree_root State.stopped State.last_subframe State.last_subframe_of State.last_word_of State.prn_valid State.held_slot State.waiting_count Candidates.later_stamp Candidates.set_entered Candidates.candidate_gone Candidates.candidate_held Candidates.on_set Candidates.on_candidate Candidates.total_with Candidates.latest_with Candidates.summed Candidates.agreed Candidates.pair_at Candidates.sets_with Candidates.arrivals_with Candidates.candidates_cleared Tags.mac_code Tags.status_and_set Tags.first_message Tags.tag_message Tags.tag_key Tags.tag_matches Tags.tag_record Tags.record_issue Tags.tag_entry Tags.entry_at Tags.entry_tag Tags.entry_set Tags.is_due Tags.names_satellite Tags.told_plain Tags.agreed_in Tags.told_agreed Tags.kept Tags.due_judged Tags.dues_judged Tags.second_half Tags.flexible Tags.own_tag Tags.macseq_message Tags.macseq_fits Tags.not_allowed Tags.own_outcome Tags.own_judged Tags.owns_judged Times.gst Times.week_of Times.second_of Times.time_valid Times.seconds_of Times.gst_of Times.stamp_of Times.hour_seconds Times.subframe_at Times.slot_of Times.lowest_slot Times.slot_seconds Times.delay_of Times.key_seconds Times.tag_slot Verdict.message_header Verdict.message_contents Verdict.names_offer Verdict.cid_in_force Verdict.same_contents Verdict.status_unfit Verdict.root_unfit Verdict.vouch_checks Verdict.chain_unchanged Verdict.key_not_before Verdict.staying Verdict.chain_stays Verdict.staying_at Verdict.root_held Verdict.tags_dropped Verdict.candidates_at Verdict.vouched Verdict.forced Verdict.judged_verdict Navdata.word_type Navdata.svid_of Navdata.word_issue Navdata.held_type Navdata.word_place Navdata.word_at Navdata.word_stored Navdata.set_bits Navdata.set_bytes Navdata.set_of Navdata.set_issue Navdata.word_came Navdata.came_before Navdata.one_issue Navdata.set_usable Navdata.usable Sha256.add Sha256.complement Sha256.shr Sha256.rotr Sha256.ch Sha256.maj Sha256.Σ0 Sha256.Σ1 Sha256.σ0 Sha256.σ1 Sha256.K Sha256.tail Sha256.pad Sha256.block Sha256.words Sha256.H0 Sha256.next Sha256.extended Sha256.schedule Sha256.round Sha256.rounds Sha256.sums Sha256.compress Sha256.hashed Sha256.bytes Sha256.digest Sha256.sha256 Sha256.finished Hmac.zero_padded Hmac.key_block Hmac.xored Hmac.inner_pad Hmac.outer_pad Hmac.hmac Hmac.key_of Hmac.hmac_with Bytes.be2 Bytes.be4 Bytes.be8 Bytes.u16at Bytes.u32at Lists.part Lists.splice Lists.same
opened = tt
