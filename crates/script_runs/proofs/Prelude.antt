-- The words of other crates that these proofs share, each with its home.
pub use Rattle.queue_callers.proofs.Splitting.{line-turnstiles}
pub use Rattle.shared_partition.specs.Partitions.{BeganEmpty, after, replied, told_of}
pub use Rattle.silo_loops.proofs.Owning.{owns-foreign}
pub use Rattle.silo_loops.specs.Lines.{LineView, QueuePass, places}
pub use Rattle.queue_callers.proofs.GoneOn.{asks-foreign, called-on, gone-refl, gone-trans}
pub use Rattle.silo_operators.proofs.Rows.{all-at, zip-at, zip-refl, zip-trans}
pub use Rattle.silo_threads.proofs.Standing.{callers-on, lives-at, met-earlier, not-fixed, op-refl}
pub use Rattle.queue_callers.specs.Calls.{CallerCalls, IsUnused, QueueCalls, joined_passes, turnstiles}
pub use Rattle.silo_threads.specs.Clusters.{AnswersDown, AnswersUp, AreAtQueues, ClusterView, HasFinished, IsAtQueue, IsConfig, IsDown, IsNew, IsUp, MayGo, is_fixed}
pub use Rattle.queue_callers.specs.Draining.{HasGoneOn, Looks, LooksAWhile, LooksInVain, LooksQuiet, ProducesNone}
pub use Rattle.silo_operators.specs.Operators.{OperatorGoesOn}
pub use Rattle.std.proofs.Common.{Bool, Contains, Err, IfErr, IfOk, List, None, Ok, Option, Result, Some, [], add-one, ap, append_assoc, arith, drop, false, filter, fold, get_or, if◌then◌else◌, inl, inr, is_some, length, length-append, map, min, nat_le, nat_lt, not, option_map, refl, remove, reverse, rules, subst, suc, sym, take, true, zero, zip, ℕ, ◌&&◌, ◌*◌, ◌++◌, ◌+◌, ◌-◌, ◌<◌, ◌==◌, ◌||◌, ◌∙◌, ◌∷◌, ◌≡◌, ◌≢◌, ◌≤◌, ◌⊎◌}
pub use Rattle.std.proofs.lemmas.Bool.{and_from, and_parts, and_right, cond_both, eq-eqb, eqb-true, false≢true, le-leb, lt-leb, lt-ltb, ltb-false, ltb-true, ne_eqb, not-true, or_parts, or_right, true≢false}
pub use Rattle.std.proofs.lemmas.List.{append-nil, length-map, map-append, map-id, reverse-append, take-append-drop}
pub use Rattle.std.proofs.lemmas.List.Elements.{filter-append, filter_agree, filter_map-append}
pub use Rattle.std.proofs.lemmas.Option.{same_Some, slice_get_within}
pub use Rattle.std.specs.List.{AllByRecursion, AllZip, cons_option, filter_map, flat_map, list_all, list_any, range_with_len}
pub use Rattle.std.specs.Prelude.{OnOk, codes, cond, slice_get, slice_set, ◌^◌}
pub use Rattle.std.specs.Result.{IsErrAnd}
pub use Rattle.std.specs.declared.alloc.AllocError.{AllocError}
pub use Rattle.step_core.specs.Reads.{handled_by, handled_of, is_named_before, summaries_in_order, summaries_of, summary_of}
pub use Rattle.step_core.specs.declared.reading.SubSummary.{SubSummary}
pub use Rattle.stream_ident.proofs.EachOf.{All-append, All-push, All-weaken}
pub use Rattle.stream_ident.proofs.SameValues.{same_stream-refl, same_sub-equal, sub_equality}
pub use Rattle.stream_ident.specs.Event.{batch_token, is_owed}
pub use Rattle.stream_ident.specs.Name.{same_grain, same_name}
pub use Rattle.stream_ident.specs.SubName.{same_sub, sub_lt}
pub use Rattle.stream_ident.specs.Token.{IsToken, token_lt, token_text}
pub use Rattle.stream_ident.specs.Words.{or_else, value_at, with_value}
pub use Rattle.stream_ident.specs.declared.event.Event.{Event}
pub use Rattle.stream_ident.specs.declared.ident.GrainId.{GrainId}
pub use Rattle.stream_ident.specs.declared.ident.StreamId.{StreamId}
pub use Rattle.stream_ident.specs.declared.ident.SubName.{SubName}
pub use Rattle.stream_ident.specs.declared.limits.TheConstants.{BATCH_EVENTS, BLOCK_EVENTS}
pub use Rattle.stream_ident.specs.declared.rule.Rule.{Rule}
pub use Rattle.stream_ident.specs.declared.token.Token.{Token}
pub use Rattle.stream_laws.proofs.Invariant.{Fits, RulesDiffer, bound_by_rules}
pub use Rattle.stream_laws.proofs.KeptStep.{kept-step}
pub use Rattle.stream_laws.proofs.LawsOfRecords.{records_are_open-from, unknown_has_no_record-from}
pub use Rattle.stream_laws.proofs.Legal.{fits-empty, fits-stands, fits-step, leads-split}
pub use Rattle.stream_laws.specs.Laws.{entries_of, gives, is_given}
pub use Rattle.stream_model.specs.History.{Binding, binding_of, handled_events, is_closed, owed_events, published_events}
pub use Rattle.stream_model.specs.NewestFirst.{batches_after, binding_after, closed_after, owed_of, published_after}
pub use Rattle.stream_model.specs.Positions.{between, empty, grain_at, is_spent, low_token, lower_bound, new_subscription, sub_at}
pub use Rattle.stream_model.specs.Producers.{is_producer}
pub use Rattle.stream_model.specs.Pulling.{all_implied, drops, implied, is_stale, rewound, rewound_where, room, subs_with}
pub use Rattle.stream_model.specs.Replies.{Reply}
pub use Rattle.stream_model.specs.Step.{Leads, Stands, after_steps, replies_of}
pub use Rattle.stream_model.specs.declared.limits.Limits.{Limits}
pub use Rattle.stream_model.specs.declared.op.Op.{Op}
pub use Rattle.stream_model.specs.declared.op.Op.TheVariants.{AddRule, Publish, Subscribe, Unsubscribe}
pub use Rattle.stream_model.specs.declared.op.Start.TheVariants.{At, Latest}
pub use Rattle.stream_model.specs.declared.plain.PlainPartition.{PlainPartition}
pub use Rattle.stream_model.specs.declared.plain.Subscription.{Subscription}
pub use Rattle.stream_script.proofs.Texts.{writes_failed, writes_then}
pub use Rattle.stream_script.specs.Forms.{op_of}
pub use Rattle.stream_script.specs.Grammar.{IsGrain, IsQueue, IsSpelled, IsStream, IsSub, MayStand, Reads}
pub use Rattle.stream_script.specs.Reading.{IsWithin, is_skipped, lexed, parsed_of}
pub use Rattle.stream_script.specs.Report.{closed_text, open_text, queue_report, report_from, summary_text}
pub use Rattle.stream_script.specs.declared.parser.command.Command.{Command}
pub use Rattle.stream_script.specs.declared.parser.command.EachOp.{EachOp}
pub use Rattle.turnstile.specs.Calls.{numbers_of}
pub use Rattle.turnstile.specs.History.{IsLegal, entry, replay}
pub use Rattle.turnstile.specs.Recorded.{answered, recorded}
pub use Rattle.turnstile.specs.declared.history.Entry.{Entry}
pub use Rattle.turnstile.specs.declared.turnstile.Refusal.{Refusal}
pub use Rattle.turnstile.specs.declared.turnstile.Refusal.TheVariants.{HistoryFull, Memory}
