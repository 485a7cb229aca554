-- Room that is left when a node in work goes: to put the others back, or aside, and for their entries in the log.
use Rattle.std.proofs.Common.{◌≡◌, ℕ, suc, ◌+◌, ◌-◌, ◌<◌, ◌≤◌, arith}
use Rattle.cip_tree.specs.Inside.{HasRoom}

-- a list with one more, where there was room, has one place less
pub room_parked : (nodes work spare capacity len log_spare : ℕ) → HasRoom nodes work spare (capacity - len) log_spare → 1 ≤ work → len < capacity
room_parked nodes work spare capacity len log_spare r some = omega (arith, r.parked, some)

pub room_logged : (nodes work spare parked_spare capacity len : ℕ) → HasRoom nodes work spare parked_spare (capacity - len) → 1 ≤ work → len < capacity
room_logged nodes work spare parked_spare capacity len r some = omega (arith, r.log, some)

-- it is put back
pub room_back : (nodes more work spare left parked_spare log_spare : ℕ) → HasRoom nodes work spare parked_spare log_spare → 1 ≤ work → more ≡ suc nodes → spare ≤ left + 1 → HasRoom more (work - 1) left parked_spare log_spare
room_back nodes more work spare left parked_spare log_spare r some longer room = record {
  queue = omega (arith, r.queue, room);
  parked = omega (arith, r.parked, some, longer);
  log = omega (arith, r.log, some, longer);
}

-- it is put aside, and logged
pub room_aside : (nodes work spare capacity len after longer log_capacity log_len log_after log_longer : ℕ) → HasRoom nodes work spare (capacity - len) (log_capacity - log_len) → 1 ≤ work → longer ≡ len + 1 → after ≡ capacity → log_longer ≡ log_len + 1 → log_after ≡ log_capacity → HasRoom nodes (work - 1) spare (after - longer) (log_after - log_longer)
room_aside nodes work spare capacity len after longer log_capacity log_len log_after log_longer r some a b d e = record {
  queue = omega (arith, r.queue);
  parked = omega (arith, r.parked, some, a, b);
  log = omega (arith, r.log, some, d, e);
}

-- it is logged alone
pub room_closed : (nodes work spare parked_spare capacity len after longer : ℕ) → HasRoom nodes work spare parked_spare (capacity - len) → 1 ≤ work → longer ≡ len + 1 → after ≡ capacity → HasRoom nodes (work - 1) spare parked_spare (after - longer)
room_closed nodes work spare parked_spare capacity len after longer r some a b = record {
  queue = omega (arith, r.queue);
  parked = omega (arith, r.parked);
  log = omega (arith, r.log, some, a, b);
}

-- it is split: room was made for its halves and their entries
pub room_second : (work spare left : ℕ) → 1 ≤ work → work + 1 ≤ spare → spare ≤ left + 1 → 0 < left
room_second work spare left some a b = omega (arith, some, a, b)

pub room_split : (nodes more most work spare left rest parked_spare capacity len after longer : ℕ) → 1 ≤ work → more ≡ suc nodes → most ≡ suc more → work + 1 ≤ spare → spare ≤ left + 1 → left ≤ rest + 1 → nodes + work + 1 ≤ parked_spare → nodes + work + 2 ≤ capacity - len → longer ≡ len + 1 → after ≡ capacity → HasRoom most (work - 1) rest parked_spare (after - longer)
room_split nodes more most work spare left rest parked_spare capacity len after longer some one two a b d parked log e f = record {
  queue = omega (arith, some, a, b, d);
  parked = omega (arith, some, one, two, parked);
  log = omega (arith, some, one, two, log, e, f);
}

-- the first open node is taken
pub room_first : (nodes fewer work spare more parked_spare log_spare : ℕ) → HasRoom nodes work spare parked_spare log_spare → suc fewer ≡ nodes → more ≡ spare + 1 → HasRoom fewer (work + 1) more parked_spare log_spare
room_first nodes fewer work spare more parked_spare log_spare r shorter room = record {
  queue = omega (arith, r.queue, room);
  parked = omega (arith, r.parked, shorter);
  log = omega (arith, r.log, shorter);
}

-- open nodes are closed
pub room_fewer : (nodes fewer work spare more parked_spare log_spare : ℕ) → HasRoom nodes work spare parked_spare log_spare → fewer ≤ nodes → more + fewer ≡ spare + nodes → HasRoom fewer work more parked_spare log_spare
room_fewer nodes fewer work spare more parked_spare log_spare r shorter room = record {
  queue = omega (arith, r.queue, shorter, room);
  parked = omega (arith, r.parked, shorter);
  log = omega (arith, r.log, shorter);
}

-- a root, which waits
pub room_root : (nodes spare parked_spare log_spare : ℕ) → nodes ≡ 1 → 1 ≤ parked_spare → 1 ≤ log_spare → HasRoom nodes 0 spare parked_spare log_spare
room_root nodes spare parked_spare log_spare one parked log = record {
  queue = omega arith;
  parked = omega (arith, one, parked);
  log = omega (arith, one, log);
}

pub room_some : (work spare : ℕ) → work + 1 ≤ spare → 0 < spare
room_some work spare a = omega (arith, a)

pub room_entry : (nodes work capacity len : ℕ) → nodes + work + 2 ≤ capacity - len → len < capacity
room_entry nodes work capacity len a = omega (arith, a)

-- there is more room for as many nodes
pub room_grown : (nodes more work spare left parked_spare parked_left log_spare log_left : ℕ)
    → HasRoom nodes work spare parked_spare log_spare → more ≡ nodes → spare ≤ left → parked_spare ≤ parked_left
    → log_spare ≤ log_left → HasRoom more work left parked_left log_left
room_grown nodes more work spare left parked_spare parked_left log_spare log_left r same a b d = record {
  queue = omega (arith, r.queue, a);
  parked = omega (arith, r.parked, same, b);
  log = omega (arith, r.log, same, d);
}

pub room_one : (capacity len : ℕ) → len ≡ 0 → 1 ≤ capacity → 1 ≤ capacity - len
room_one capacity len none room = omega (arith, none, room)
