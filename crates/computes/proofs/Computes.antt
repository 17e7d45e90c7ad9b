-- The definitions of the machine, named together: a theorem that computes says `unfolding computes`.
use Prim.Native.Nat.{ℕ}
use Rattle.words.specs.Word.{word, set_word}
use Rattle.region.specs.Frame.{frame_of_width}
use Rattle.region.specs.Level.{digits, level, ancestor}
use Rattle.region.specs.Pick.{pick, upd}
use Rattle.region.specs.Record.{node_at, set_node_at, cell_at, set_cell_at, is_item, same_item}
use Rattle.region.specs.Shape.{between, shape_fits, region_words_of_width}
use Rattle.region.specs.Shared.{load_entry, store_entry, node_in, set_node_in, cell_in, set_cell_in, thread_in, set_thread_in, set_permission_in, shared_in}
use Rattle.region.specs.Thread.{thread_at, set_thread_at, gone_idle, at_place, with_item, with_own, with_depth, with_search, with_node, with_after, with_result, with_copies, with_first, with_second, with_third, begun_put, is_idle, mending}
use Rattle.access.specs.Effect.{effect_bytes, freed_bytes, push_bytes}
use Rattle.access.specs.Order.{item_le, item_lt, value_of}
use Rattle.access.specs.Plan.{plan, moved, on_to, refused}
use Rattle.access.specs.Read.{read_node, same_node, is_dirty, is_spent, updated, is_node, is_level}
use Rattle.insert.specs.Insert.{read_depth, search_on, leaf_of, is_leaf_of, has_tried_deepest, leaf_to_read, next_leaf, leaf_after_failed_try, next_tries, failed_place, after_failed_try, after_leaf_read, read_leaf, after_ancestor_read, middle_level, has_middle, read_ancestor, grow_depth, target_place, read_target, insert_at, insert_at_root, read_parent, node_and_parent_same, insert_below}
use Rattle.extract.specs.Extract.{after_root_read, read_root, list_read_root, after_removal, after_list_removal, cas_root, remove_head, remove_list, handed_out, hand_out}
use Rattle.moundify.specs.Moundify.{returning, mend_read_node, after_depth_read, mend_read_depth, mend_read_left, marked, less_below, child_less, after_children_read, mend_read_right, exchange_at, node_and_child_same, exchange_with, mend_swap, clean_at, mend_clean, place_after, returned, return_answer}
use Rattle.records.specs.Accepts.{accepts, claimant, each_two, is_claimed, listed, positions_fit, records_answer}
use Rattle.records.specs.Play.{bag_after, bag_gives, holds, is_empty_bag, none_less, plays, without}
use Rattle.records.specs.Recorded.{all_in_range, every, in_range, recorded_at, some, well_formed}
use Rattle.cost.specs.Cost.{lesser_child, levels_down, without_head, rest_level, cost_of_level, take_cost}
use Rattle.layout.specs.Layout.{at_most, permissions_fit, layout_refusal, cell_word, thread_word, laid_word, laid_words, layout_bytes}
use Rattle.readable.specs.Readable.{greatest_tries, greatest_waiting, bounded, thread_passes, all_records, tree_readable, fields_readable, readable_of_width, check_answer}
use Rattle.convert.specs.Convert.{convert_refusal, all_carried, converted_words, converted_bytes}
use Rattle.permission.specs.Grants.{may_put, may_take}
use Rattle.permission.specs.Permit.{permit_refusal_in, permit_refusal, permit_bytes}
use Rattle.permission.specs.Withdraw.{is_put_place, is_take_place, lacks_permission, withdrawal, permitted}
use Rattle.begin.specs.Begin.{has_free_cell, put_refusal, accepted_put, put_bytes, take_refusal, take_bytes}
use Rattle.run.specs.Run.{turns_from, serve, serve_all, run_refusal, run_result}
use Rattle.machine.specs.Turn.{decide, turn_plan, turn_answer, carried_out, turn_bytes}

unfoldable pub computes : ℕ
unfolding word set_word frame_of_width digits level ancestor pick upd node_at set_node_at cell_at set_cell_at between shape_fits region_words_of_width load_entry store_entry node_in set_node_in cell_in set_cell_in thread_in set_thread_in set_permission_in shared_in thread_at set_thread_at gone_idle at_place with_item with_own with_depth with_search with_node with_after with_result with_copies with_first with_second with_third begun_put mending place_after returned return_answer effect_bytes freed_bytes push_bytes item_le item_lt value_of plan moved on_to refused read_node same_node is_dirty is_spent updated is_node is_level read_depth search_on leaf_of is_leaf_of has_tried_deepest leaf_to_read next_leaf leaf_after_failed_try next_tries failed_place after_failed_try after_leaf_read read_leaf after_ancestor_read middle_level has_middle read_ancestor grow_depth target_place read_target insert_at insert_at_root read_parent node_and_parent_same insert_below after_root_read read_root list_read_root after_removal after_list_removal cas_root remove_head remove_list handed_out hand_out returning mend_read_node after_depth_read mend_read_depth mend_read_left marked less_below child_less after_children_read mend_read_right exchange_at node_and_child_same exchange_with mend_swap clean_at mend_clean lesser_child levels_down without_head rest_level cost_of_level take_cost at_most permissions_fit layout_refusal cell_word thread_word laid_word laid_words layout_bytes greatest_tries greatest_waiting bounded thread_passes all_records tree_readable fields_readable readable_of_width check_answer convert_refusal all_carried converted_words converted_bytes may_put may_take permit_refusal_in permit_refusal permit_bytes is_put_place is_take_place lacks_permission withdrawal permitted is_idle is_item has_free_cell put_refusal accepted_put put_bytes take_refusal take_bytes turns_from serve serve_all run_refusal run_result decide turn_plan turn_answer carried_out turn_bytes same_item every some recorded_at in_range all_in_range well_formed holds none_less without is_empty_bag bag_gives bag_after plays each_two is_claimed positions_fit claimant listed accepts records_answer
computes = 0
