mod ReplayBuffer
