use Rattle.partition_reference.proofs.Prelude.{◌≡◌, ◌∙◌, same_sub, place_of-within, place_of-change, with_sub, caught_up, Subscription}
use Rattle.partition_reference.proofs.Handing.{at-found, caught_up-done}
use Rattle.partition_reference.proofs.delivering.catch_up.Goals as goal

pub set_marks-requires : goal.set_marks-requires
set_marks-requires c = place_of-within same_sub c.args.sub.now c.args.place c.args.p.now.subs c.requires

pub returns : goal.returns
returns c = λ r is_r.
    let p = c.args.p.now in
    let s = c.args.sub.now in
    let found = c.sub_in-found.result.now in
    let cursor = c.max-cursor.result in
    let resume = c.resume_after-resume.result in
    let changed = place_of-change same_sub s (λ (r : Subscription). record r { cursor = cursor; resume = resume }) found c.args.place p.subs c.requires c.sub_in-found.ensures in
    at-found (λ r. record p { subs = c.set_marks.new.subs } ≡ with_sub p s (caught_up p s r)) p s found r c.sub_in-found.ensures is_r
    (caught_up-done p s found c.set_marks.new.subs cursor resume c.max-cursor.ensures c.resume_after-resume.ensures (c.set_marks.ensures ∙ changed))
