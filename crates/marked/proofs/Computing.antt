-- How a run is computed.
-- Assumes nothing.
use Rattle.base.proofs.Prelude.{List, [], ◌∷◌, ℕ, suc, zero}
use Rattle.context.specs.Lists.{lists}
use Rattle.walk.specs.declared.Counts.{Counts}
use Rattle.stepper.specs.Stepper.{begin, step, finish}
use Rattle.lists.specs.Lists.{are_in_order}
use Rattle.validity.specs.Validity.{is_window, is_in_code, are_starts, begin_check, is_whole, are_whole, are_held, are_pools, are_bytes, are_lists, step_check}
use Rattle.context.specs.Turn.{turn, counts_of}
use Rattle.context.specs.Blocks.{is_in, skip_pool, inline_table_at, skip_inline_table, marked as mark_call, in_conditional_block, is_destination, saved_at, is_long_branch_destination, jump_table, illegal_code, branch_outside, mark_pool, forget_written, is_tail_call, final_return, entry_after_branch, past_pools, raises_label, label_raised, handle_label, is_other_function, branches, branched, branch, pool_load, inline_table, function_call, check_defined, from_return, to_return, handle_ins_inner, handle_ins}
use Rattle.rows.specs.Map.{flat, map_in, in_order, at_or_above, first_key, last_key}
use Rattle.rows.specs.Order.{rising, ascending, zeros}
use Rattle.rows.specs.Rows.{padded, rank, stands, inserted}
use Rattle.rows.specs.Run.{gap_by, gap_from}
use Rattle.base.specs.Words.{first_word, word_from}
use Rattle.walk.specs.Checking.{is_checked, defined_before, undefined_register, defined_by, defined_after}
use Rattle.walk.specs.IntoFunction.{begun, start_of, into_function}
use Rattle.predicates.specs.Predicates.{saved_registers, is_pool_load, pool_from, pool_address, is_mov_pc, is_ldm_pc, is_pop_pc, is_branch_back, is_subs_pc_lr, is_ldr_pc, is_eor_pc, is_add_pc, is_return_always, is_adds_four, is_return_after, is_return, is_nop, is_push, is_stack_store, as_previous, is_function_call}
use Rattle.analysis.specs.FunctionBranch.{movge_pc_lr, mov_from_sp, ldr_ip_pc, add_r0_ip, at_start, after_eors, before_branch, after_ldr}
use Rattle.analysis.specs.IllegalCode.{is_shift, dereferenced, offset_by_itself, reads_pc_into_pc, illegal_code as analysis-illegal_code}
use Rattle.analysis.specs.InlineTable.{table_address, sub_from, sub_pc_of, is_table_load, table_made}
use Rattle.analysis.specs.JumpTable.{check_start, compared, is_jump, found, jump_or_branch, is_zero_limit, signed_baseline, jump_at, valid_table, jump_table as analysis-jump_table, end_of_entries}
use Rattle.registers.specs.Registers.{column_forgotten, forgotten, holding, source_of, missing_from}
use Rattle.classes.specs.Class.{class_no}
use Rattle.classes.specs.Cond.{cond_no}
use Rattle.encodings.specs.Diagram.{column, columns, cond, uncond, bits, unconditional, view, fits, fitting, first_or}
use Rattle.encodings.specs.Encodings.{encodings, undefineds, encoding_on, encoding_of}
use Rattle.modes.specs.Immediate.{rotate_right, rotations, immediate}
use Rattle.arm.specs.Ins.{decode_of}
use Rattle.arm.specs.Naming.{shift_name, mov_name, stm_name, ldm_name, str_name, ldr_name, name_of, class_of, is_of_one, regs_of}
use Rattle.modes.specs.Offset.{signed, modulo, branch_offset, load_offset, destination}
use Rattle.modes.specs.Operands.{shift_of, zero_shift_of, zero_amount_of, shift_imm_of, shift_amount_of, op2_of, offset_of, addr_of, mode_of, extra_of, target_of}
use Rattle.regsets.specs.Sets.{form_of, if_bit, shifter_set, offset2_set, offset3_set, written_back_set, indexed_set, status_source_set, coprocessor_result_set, uses_of, defs_of, restores, writes_flags, flags_of}
use Rattle.std.specs.Int.Count.{ones}
use Rattle.marked.specs.Marked.{Marked, Outcome, bytes, steps, ran, given_in, expected_in}

-- the expected outcome with its lists spelled out. A run's lists are `encode` over `encode`, a step each, and `refl` would compare the
-- arguments of each with those of an expected `encode` before it computes
unfoldable pub filled : ℕ → List ℕ → List ℕ
filled zero xs = []
filled (suc n) [] = 0 ∷ filled n []
filled (suc n) (x ∷ xs) = x ∷ filled n xs

unfoldable pub spelled_in : Counts → Marked → Outcome
spelled_in n m = record {
  answer = m.answer;
  lists =
      lists (filled n.labels (flat m.maps.labels)) (filled n.pools (flat m.maps.pools))
      (filled n.jump_tables (flat m.maps.jump_tables)) (filled n.inline_tables (flat m.maps.inline_tables))
      (filled n.calls (flat m.maps.calls));
  counts = counts_of m.maps;
}

-- what a run computes with
unfoldable pub calls : Unit {0}
unfolding filled spelled_in bytes steps ran given_in expected_in begin step finish is_window is_in_code are_starts begin_check are_in_order is_whole are_whole are_held are_pools are_bytes are_lists step_check turn is_in skip_pool inline_table_at skip_inline_table mark_call in_conditional_block is_destination saved_at is_long_branch_destination jump_table illegal_code branch_outside mark_pool forget_written is_tail_call final_return entry_after_branch past_pools raises_label label_raised handle_label is_other_function branches branched branch pool_load inline_table function_call check_defined from_return to_return handle_ins_inner handle_ins flat map_in in_order at_or_above first_key last_key rising ascending zeros padded rank stands inserted gap_by gap_from first_word word_from is_checked defined_before undefined_register defined_by defined_after begun start_of into_function saved_registers ones is_pool_load pool_from pool_address is_mov_pc is_ldm_pc is_pop_pc is_branch_back is_subs_pc_lr is_ldr_pc is_eor_pc is_add_pc is_return_always is_adds_four is_return_after is_return is_nop is_push is_stack_store as_previous is_function_call movge_pc_lr mov_from_sp ldr_ip_pc add_r0_ip at_start after_eors before_branch after_ldr is_shift dereferenced offset_by_itself reads_pc_into_pc analysis-illegal_code table_address sub_from sub_pc_of is_table_load table_made check_start compared is_jump found jump_or_branch is_zero_limit signed_baseline jump_at valid_table analysis-jump_table end_of_entries column_forgotten forgotten holding source_of missing_from class_no cond_no column columns cond uncond bits unconditional view fits fitting first_or encodings undefineds encoding_on encoding_of rotate_right rotations immediate decode_of shift_name mov_name stm_name ldm_name str_name ldr_name name_of class_of is_of_one regs_of signed modulo branch_offset load_offset destination shift_of zero_shift_of zero_amount_of shift_imm_of shift_amount_of op2_of offset_of addr_of mode_of extra_of target_of form_of if_bit shifter_set offset2_set offset3_set written_back_set indexed_set status_source_set coprocessor_result_set uses_of defs_of restores writes_flags flags_of
calls = tt
