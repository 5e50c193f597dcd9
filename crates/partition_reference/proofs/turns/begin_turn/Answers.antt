use Rattle.partition_reference.proofs.Prelude.{◌≡◌, ◌+◌, ◌<◌, suc, ◌∷◌, drop, length, sym, ap, subst, ◌∙◌, arith, AllByRecursion, same_grain, begin_turn-done, grain_at-is, turn-within, place_of-within, place_of-change, started, begin_turn, front_of, Grain}
use Rattle.partition_reference.proofs.turns.begin_turn.Goals as goal

pub start_turn-requires : goal.start_turn-requires
start_turn-requires c = place_of-within same_grain c.args.id.now c.args.at c.args.p.now.grains c.requires.place

pub turn_positions-positions-requires-clause-first : goal.turn_positions-positions-requires-clause-first
turn_positions-positions-requires-clause-first c =
    let st = c.grain_in-grain.result.now in
    let is_st = grain_at-is c.args.p.now c.args.id.now st c.grain_in-grain.ensures in
    subst (λ xs. xs ≡ c.args.front ∷ drop 1 xs) (ap (λ (st : Grain). st.mailbox) is_st ∙ sym c.as_slice.ensures) c.requires.first

pub turn_events-events-requires : goal.turn_events-events-requires
turn_events-events-requires c =
    let p = c.args.p.now in
    let st = c.grain_in-grain.result.now in
    let is_front = c.turn_positions-positions.ensures ∙ ap (front_of c.args.most c.args.front.sub c.args.front.position) c.as_slice.ensures in
    subst (λ xs. AllByRecursion (λ position. position < length p.log) xs) (sym is_front) (turn-within p c.args.id.now st c.args.most c.args.front.sub c.args.front.position c.requires.within c.grain_in-grain.ensures)

pub returns : goal.returns
returns c =
    let p = c.args.p.now in
    let g = c.args.id.now in
    let front = c.args.front in
    let st = c.grain_in-grain.result.now in
    let positions = c.turn_positions-positions.result in
    let is_front = c.turn_positions-positions.ensures ∙ ap (front_of c.args.most front.sub front.position) c.as_slice.ensures in
    let changed = place_of-change same_grain g (started (record { sub = front.sub; turn = p.turns + 1; positions = positions })) st c.args.at p.grains c.requires.place c.grain_in-grain.ensures in
    let rises : p.rises + 1 ≡ suc p.rises = omega arith in
    let turns : p.turns + 1 ≡ suc p.turns = omega arith in
    begin_turn-done p g st front.sub c.args.note positions c.turn_events-events.result c.start_turn.new.grains (p.rises + 1) (p.turns + 1) rises turns c.turn_events-events.ensures (c.start_turn.ensures ∙ changed)
    ∙ (ap (begin_turn p g st front.sub c.args.note) is_front
    ∙ ap (λ (st : Grain). begin_turn p g st front.sub c.args.note (front_of c.args.most front.sub front.position st.mailbox)) (sym (grain_at-is p g st c.grain_in-grain.ensures)))
