use Rattle.std.proofs.Common.{◌≡◌, ◌+◌, ◌-◌, ◌≤◌, length, take, drop, ap, ◌∙◌, arith}
use Rattle.fekhtovi.specs.Replay.{ended}
use Rattle.fekhtovi.specs.Script.{scripted_in}
use Rattle.fekhtovi.proofs.Replaying.{taken_length, goes_on, stays, stops, stops_full}
use Rattle.fekhtovi.proofs.replay.replay_on.Goals as goal

pub returns-then-room-answers : goal.returns-then-room-answers
returns-then-room-answers g c =
    let l = c.loop-call in
    let a = c.args in
    let blocks = g.M.Memory.block_count in
    let held = g.M.Memory.texts l.memory in
    stops blocks (g.M.Memory.texts a.memory.now) held a.script.now a.answers.now l.call-iterator.rest.now l.answers l.written
    l.invariant.0 l.invariant.1 l.invariant.2
    (stops_full blocks held l.call-iterator.rest.now c.next.new.self.rest.now a.answers.now l.written _ c.room_for-room.result (scripted_in c.in-Some.call)
    c.in-Some.ensures.steps c.room_for-room.ensures l.auto.answers c.if-room-answers.true)

pub loop-call-preserved : goal.loop-call-preserved
loop-call-preserved g c =
    let l = c.loop-call in
    let a = c.args in
    let w = l.written in
    let room = c.room_for-room.result in
    let blocks = g.M.Memory.block_count in
    let held = g.M.Memory.texts l.memory in
    let call = scripted_in c.in-Some.call in
    let whole : w + room - w ≡ room = omega arith in
    let long = l.auto.answers in
    let fits : room ≤ length l.answers - w = c.if-room-answers.false in
    let sized = c.make_into.auto.place ∙ taken_length l.answers w (w + room - w) room whole fits in
    let inside : w + room ≤ length a.answers.now = omega (arith, l.invariant.0) in (
      inside,
      stays a.answers.now l.answers c.make_into.new.place w (w + room - w) room inside long l.invariant.1 whole sized,
      goes_on blocks (g.M.Memory.texts a.memory.now) held (g.M.Memory.texts c.make_into.new.memory) a.script.now a.answers.now
          l.call-iterator.rest.now c.next.new.self.rest.now l.answers (take (w + room - w) (drop w l.answers)) c.make_into.new.place w (w + room - w) room call
          c.in-Some.ensures.steps c.room_for-room.ensures inside long l.invariant.1 (ap (λ n. take n (drop w l.answers)) whole)
          c.make_into.ensures.left sized c.make_into.ensures.texts l.invariant.2,
    )

pub returns : goal.returns
returns g c =
    let l = c.loop-call in
    let a = c.args in
    let blocks = g.M.Memory.block_count in
    let held = g.M.Memory.texts l.memory in
    stops blocks (g.M.Memory.texts a.memory.now) held a.script.now a.answers.now l.call-iterator.rest.now l.answers l.written
    l.invariant.0 l.invariant.1 l.invariant.2 (ended c.in-None.ensures.steps)
